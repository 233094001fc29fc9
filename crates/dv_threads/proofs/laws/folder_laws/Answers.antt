use Rattle.dv_threads.proofs.laws.folder_laws.Goals as goal

pub returns-clause-files : goal.returns-clause-files
returns-clause-files g c = λ s tells. g.met.S.Shelf.leaves_files s tells

pub returns-clause-only : goal.returns-clause-only
returns-clause-only g c = λ s f tells left. g.met.S.Shelf.only_now s f tells left
