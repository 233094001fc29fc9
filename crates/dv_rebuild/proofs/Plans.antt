-- The new log, made ready.
use Rattle.std.proofs.Common.{append_assoc, length-append, ◌≡◌, inl, inr, ℕ, zero, suc, ◌+◌, ◌<◌, ◌≤◌, true, false, Bool, List, [], ◌∷◌, ◌++◌, length, take, drop, nat_eq, Option, Some, None, refl, sym, ◌∙◌, ap, subst, arith}
use Rattle.std.specs.Prelude.{flat_map, if◌then◌else◌, is_some, nat_le, option_map, IfOk, IfSome, IsNone, Result, Ok, Err}
use Rattle.std.specs.List.{list_any}
use Rattle.std.proofs.lemmas.Bool.{le-leb, leb-false, leb-true, lt-leb}
use Rattle.std.proofs.lemmas.List.{drop_all}
use Rattle.std.proofs.lemmas.Option.{same_Some}
use Rattle.dv_model.specs.declared.types.OpenFault.{OpenFault}
use Rattle.dv_model.specs.declared.types.OpenFault.TheVariants as fault
use Rattle.dv_model.specs.declared.types.Record.{Record}
use Rattle.dv_model.specs.Sessions.{next_number}
use Rattle.dv_model.specs.Spelling.{written}
use Rattle.dv_shelf.specs.Folders.{Folder}
use Rattle.dv_logfile.specs.declared.header.LogHeader.{LogHeader}
use Rattle.dv_logfile.specs.Layout.{IsHeader, closing, header_text, last_end, log_end, log_text, longest_log}
use Rattle.dv_logfile.specs.Scans.{BadHeader, BadSpot, Good, GoodLog, IsFaulty, IsGood, IsScanned, Missing, Scanned, Spot}
use Rattle.dv_logfile.proofs.OneScan.{scans_one}
use Rattle.dv_openings.specs.Openings.{IsIndex, Snapshot, joining, joins}
use Rattle.dv_openings.specs.Rebuilds.{IsHeaderIn, IsRebuild, Rebuild, new_indexid, raised_while, records_of, stamp_of}
use Rattle.dv_openings.specs.Salvages.{IsFront, IsLogFront, Salvaged, rebuilt_records, salvaged_in}
use Rattle.dv_chain.specs.declared.file.File.{File}
use Rattle.dv_chain.specs.Files.{HasHeader, IsFileOf, ReadsFile, good_file}
use Rattle.dv_chain.specs.Walks.{IsWalked, Measures}
use Rattle.dv_chain.proofs.Mended.{cut_at_end}
use Rattle.dv_rebuild.specs.declared.mails.Sifted.{Sifted}
use Rattle.dv_rebuild.specs.declared.planning.NewLog.{NewLog}
use Rattle.dv_rebuild.specs.declared.reading.Texts.{Texts}
use Rattle.dv_rebuild.specs.declared.reporting.Remains.{Remains}
use Rattle.dv_rebuild.specs.declared.reporting.Report.{Report}
use Rattle.dv_rebuild.specs.declared.reporting.Sources.{Sources}
use Rattle.dv_rebuild.specs.declared.sourcing.Taken.{Taken}
use Rattle.dv_rebuild.specs.declared.sourcing.Which.{Which}
use Rattle.dv_rebuild.specs.declared.rebuilding.Rebuilt.{Rebuilt}
use Rattle.dv_rebuild.specs.Mails.{AreNumbersOf, IsSifted, is_cache}
use Rattle.dv_rebuild.specs.Plans as plans
use Rattle.dv_rebuild.specs.Plans.{AreUsed, IsPlan, Salvages, text_in_time, there_in}
use Rattle.dv_rebuild.specs.Reading.{AreTexts, IsCut, IsFrontOf, IsGoodOf, IsWholeIn}
use Rattle.dv_rebuild.specs.Rebuilding.{IsPrepared, IsTooLong}
use Rattle.dv_rebuild.specs.Reports as reports
use Rattle.dv_rebuild.specs.Sources.{read_in, sources_in, sources_of, taken_in}
use Rattle.dv_rebuild.proofs.Sorted.{cache_listed, mail_numbers}

-- ---- the log, up to its first fault

same_good : (a b : GoodLog) → Good a ≡ Good b → a ≡ b
same_good a b is = cc

pub cut_front : (h : LogHeader) (b : List ℕ) (offset count : ℕ) → IsHeader h b → IsWalked h.hdr_size b offset count → IsFaulty offset (drop offset b) → IsCut h b (take offset b ++ closing)
cut_front h b offset count taken w faulty = λ log good.
    let made : GoodLog = record { header = h; spots = w.spots; end = offset } in
    let text : List ℕ = take offset b ++ closing in
    let is : IsGood made text = cut_at_end made b (drop offset b) taken w.are w.fits in
    let front : IsFront made b = record { taken = taken; rest = drop offset b; records = w.are; stops = inr faulty } in
    subst (λ (x : GoodLog). IsFront x b) (sym (same_good log made (scans_one (Some text) (Good log) (Good made) good is))) front

pub uncut : (h : LogHeader) (b : List ℕ) → IsCut h b b
uncut h b = λ log good. record { taken = good.taken; rest = good.rest; records = good.records; stops = inl good.closed }

pub measured_cut : (h : LogHeader) (b : List ℕ) (offset : ℕ) (text : List ℕ) → IsHeader h b → Measures h.hdr_size b (Err (fault.BadRecord offset)) → text ≡ take offset b ++ closing → IsCut h b text
measured_cut h b offset text taken measured is = subst (IsCut h b) (sym is) (cut_front h b offset measured.0 taken measured.1 measured.2)

pub cut_result : (h : LogHeader) (b read text : List ℕ) (from offset : ℕ) (result : Result (List ℕ) OpenFault) → IsHeader h b → from ≡ h.hdr_size → read ≡ b → text ≡ b → Measures from read (Err (fault.BadRecord offset))
    → IfOk result (λ made. made ≡ take offset text ++ closing) → IfOk result (IsCut h b)
cut_result h b read text from offset (Ok made) taken first is again measured cut =
    measured_cut h b offset made taken (subst (λ (n : ℕ). Measures n b (Err (fault.BadRecord offset))) first (subst (λ (l : List ℕ). Measures from l (Err (fault.BadRecord offset))) is measured))
    (cut ∙ ap (λ (l : List ℕ). take offset l ++ closing) again)
cut_result h b read text from offset (Err e) taken first is again measured cut = tt

pub header_there : (read b : List ℕ) (result : Option LogHeader) → read ≡ b → IfSome result (λ h. IsHeader h read) → (IsNone result → (h : LogHeader) → IsHeader h read → ⊥) → IsHeaderIn (Some b) result
header_there read b (Some h) is found none = subst (IsHeader h) is found
header_there read b None is found none = λ h taken. none refl h (subst (IsHeader h) (sym is) taken)

pub front_some : (h : LogHeader) (b text : List ℕ) (file : File) → IsCut h b text → ReadsFile text (Ok file) → IsFrontOf (Some b) (Some file)
front_some h b text file cut reads =
    let has = reads.1 in
    let log = good_file file has.0 in
    record { log = Some log; front = cut log (subst (IsGood log) reads.0 has.1.good); is = (has.0, has.1, refl) }

pub front_none : (read b : List ℕ) → read ≡ b → ((h : LogHeader) → IsHeader h read → ⊥) → IsFrontOf (Some b) None
front_none read b is none = record { log = None; front = λ h taken. none h (subst (IsHeader h) (sym is) taken); is = refl }

pub front_missing : IsFrontOf None None
front_missing = record { log = None; front = refl; is = refl }

pub read_header_fits : (b : List ℕ) (file : File) → ReadsFile b (Ok file) → HasHeader file
read_header_fits b file reads = reads.1.1.whole.header

-- ---- the rotated log

pub whole_some : (b : List ℕ) (file : File) → ReadsFile b (Ok file) → IsWholeIn (Some b) (Some file)
whole_some b file reads =
    let has = reads.1 in
    let log = good_file file has.0 in
    record { scan = Good log; scanned = subst (IsGood log) reads.0 has.1.good; is = (has.0, has.1, refl) }

pub whole_bad : (b : List ℕ) (e : OpenFault) → (e ≡ fault.NoMemory → ⊥) → ReadsFile b (Err e) → IsWholeIn (Some b) None
whole_bad b fault.NoMemory other reads = absurd (other refl)
whole_bad b fault.BadLogHeader other reads = record { scan = BadHeader; scanned = reads; is = λ log e. absurd cc }
whole_bad b (fault.BadRecord offset) other reads = record { scan = BadSpot offset; scanned = reads; is = λ log e. absurd cc }
whole_bad b fault.NoLog other reads = absurd reads
whole_bad b fault.BadIndex other reads = absurd reads
whole_bad b (fault.Gap index mark) other reads = absurd reads
whole_bad b (fault.Disk n) other reads = absurd reads

pub whole_missing : IsWholeIn None None
whole_missing = record { scan = Missing; scanned = tt; is = λ log e. absurd cc }

pub joined_some : (log : GoodLog) (first : File) (scan : Scanned) → ((others : List Spot) → joins log (good_file first others) ≡ true) → IsGoodOf (Some first) scan → IsFileOf (Some first) (joining log scan)
joined_some log first scan both is =
    (is.0, is.1, ap (joining log) is.2 ∙ ap (λ (x : Bool). if x then Some (good_file first is.0) else None) (both is.0))

pub joined_apart : (log : GoodLog) (first : File) (scan : Scanned) → ((others : List Spot) → joins log (good_file first others) ≡ false) → IsGoodOf (Some first) scan → IsFileOf None (joining log scan)
joined_apart log first scan apart is = ap (joining log) is.2 ∙ ap (λ (x : Bool). if x then Some (good_file first is.0) else None) (apart is.0)

pub joined_none : (log : GoodLog) (scan : Scanned) → IsGoodOf None scan → IsFileOf None (joining log scan)
joined_none log Missing is = refl
joined_none log BadHeader is = refl
joined_none log (BadSpot place) is = refl
joined_none log (Good other) is = absurd (is other refl)

-- ---- what is salvaged

pub salvages_of : (texts : Texts) (file rotated : Option File) (index : Option Snapshot) (used : List ℕ) (salvaged : Salvaged) (there read : Which) (taken : Taken) (sources : Sources) → IsFrontOf texts.log file → IsWholeIn texts.rotated rotated → IsIndex texts.index index
    → ((front : Option GoodLog) → IsFileOf file front → AreUsed front texts.rotated index used)
    → ((front : Option GoodLog) (scan : Scanned) → IsFileOf file front → IsGoodOf rotated scan → salvaged ≡ salvaged_in front scan index)
    → there ≡ there_in texts → ((front : Option GoodLog) (scan : Scanned) → IsFileOf file front → IsGoodOf rotated scan → read ≡ read_in front scan index)
    → ((front : Option GoodLog) (scan : Scanned) → IsFileOf file front → IsGoodOf rotated scan → taken ≡ taken_in front scan index) → sources ≡ sources_of there read taken → Salvages texts salvaged used sources
salvages_of texts file rotated index used salvaged there read taken sources front whole found are is stand reads takes come = record {
  log = front.log;
  rotated = whole.scan;
  index = index;
  log_file = front.front;
  rotated_file = whole.scanned;
  index_file = found;
  is = is front.log whole.scan front.is whole.is;
  used_are = are front.log front.is;
  sources_are = come ∙ (λ i. sources_of (stand i) (reads front.log whole.scan front.is whole.is i) (takes front.log whole.scan front.is whole.is i));
}

pub log_used : (file : File) (front : Option GoodLog) → IsFileOf (Some file) front → option_map (λ (log : GoodLog). log.header.indexid) front ≡ Some file.header.indexid
log_used file front is = ap (option_map (λ (log : GoodLog). log.header.indexid)) is.2

-- ---- the number

pub next_some : (n : ℕ) → 1 ≤ next_number n
next_some n = by_last (nat_eq n 4294967295)
  where
    by_last : (b : Bool) → 1 ≤ (if b then 1 else n + 1)
    by_last true = omega arith
    by_last false = omega arith

pub raised_some : (used more : List ℕ) (n : ℕ) → 1 ≤ n → 1 ≤ raised_while used more n
raised_some used [] n some = some
raised_some used (one ∷ more) n some = by_used (list_any (nat_eq n) used) (raised_some used more (next_number n) (next_some n))
  where
    by_used : (b : Bool) → 1 ≤ raised_while used more (next_number n) → 1 ≤ (if b then raised_while used more (next_number n) else n)
    by_used true others = others
    by_used false others = some

pub new_some : (used : List ℕ) (now : ℕ) → 1 ≤ new_indexid used now
new_some used now = raised_some used used (stamp_of now) (omega arith)

pub raised_on : (used more : List ℕ) (one n : ℕ) → list_any (nat_eq n) used ≡ true → raised_while used (one ∷ more) n ≡ raised_while used more (next_number n)
raised_on used more one n is = ap (λ (b : Bool). if b then raised_while used more (next_number n) else n) is

pub raised_here : (used more : List ℕ) (one n : ℕ) → list_any (nat_eq n) used ≡ false → raised_while used (one ∷ more) n ≡ n
raised_here used more one n is = ap (λ (b : Bool). if b then raised_while used more (next_number n) else n) is

raised_at : (used : List ℕ) (i : ℕ) → i < length used → (one : ℕ) × (drop i used ≡ one ∷ drop (i + 1) used)
raised_at [] i less = absurd (omega (arith, less))
raised_at (one ∷ used) zero less = (one, refl)
raised_at (one ∷ used) (suc i) less =
    let more = raised_at used i (omega (arith, less)) in
    let place : suc i + 1 ≡ suc (i + 1) = omega arith in
    (more.0, more.1 ∙ ap (λ (k : ℕ). more.0 ∷ drop k (one ∷ used)) (sym place))

pub raised_step : (used : List ℕ) (i n : ℕ) → i < length used → list_any (nat_eq n) used ≡ true → raised_while used (drop i used) n ≡ raised_while used (drop (i + 1) used) (next_number n)
raised_step used i n less is =
    let at = raised_at used i less in
    ap (λ (l : List ℕ). raised_while used l n) at.1 ∙ raised_on used (drop (i + 1) used) at.0 n is

pub raised_stop : (used : List ℕ) (i n : ℕ) → i < length used → list_any (nat_eq n) used ≡ false → raised_while used (drop i used) n ≡ n
raised_stop used i n less is =
    let at = raised_at used i less in
    ap (λ (l : List ℕ). raised_while used l n) at.1 ∙ raised_here used (drop (i + 1) used) at.0 n is

pub raised_end : (used : List ℕ) (i n : ℕ) → length used ≤ i → raised_while used (drop i used) n ≡ n
raised_end used i n past = ap (λ (l : List ℕ). raised_while used l n) (drop_all i used past)

-- ---- the text

text_end : (h : LogHeader) (rs : List Record) → length (log_text h rs) ≡ log_end rs + 4
text_end h rs =
    let records = flat_map written rs in
    let text-is : log_text h rs ≡ header_text h ++ (records ++ closing) = append_assoc (header_text h) records closing in
    omega (arith, ap length text-is, length-append (header_text h) (records ++ closing), length-append records closing)

module _ (h : LogHeader) (rs : List Record) where
  by_end : (b : Bool) → nat_le (log_end rs) last_end ≡ b → text_in_time h rs ≡ (if b then Some (log_text h rs) else None)
  by_end b is = ap (λ (b : Bool). if b then Some (log_text h rs) else None) is

  pub in_time : (text : List ℕ) → text ≡ log_text h rs → length text ≤ longest_log → Some text ≡ text_in_time h rs
  in_time text is short =
      let fits : log_end rs ≤ last_end = omega (arith, ap length is, text_end h rs, short) in
      ap (λ (t : List ℕ). Some t) is ∙ sym (by_end true (le-leb (log_end rs) last_end fits))

  pub too_late : (text : List ℕ) → text ≡ log_text h rs → longest_log < length text → None ≡ text_in_time h rs
  too_late text is long =
      let late : last_end < log_end rs = omega (arith, ap length is, text_end h rs, long) in
      sym (by_end false (lt-leb (log_end rs) last_end late))

  pub ends_in_time : (text : List ℕ) → Some text ≡ text_in_time h rs → (text ≡ log_text h rs) × (log_end rs ≤ last_end)
  ends_in_time text is = by_test (nat_le (log_end rs) last_end) refl
    where
      by_test : (b : Bool) → nat_le (log_end rs) last_end ≡ b → (text ≡ log_text h rs) × (log_end rs ≤ last_end)
      by_test true fits = (same_Some text (log_text h rs) (is ∙ by_end true fits), leb-true (log_end rs) last_end fits)
      by_test false late = let none : Some text ≡ None = is ∙ by_end false late in absurd cc

  pub ends_late : None ≡ text_in_time h rs → last_end < log_end rs
  ends_late is = by_test (nat_le (log_end rs) last_end) refl
    where
      by_test : (b : Bool) → nat_le (log_end rs) last_end ≡ b → last_end < log_end rs
      by_test true fits = let some : None ≡ Some (log_text h rs) = is ∙ by_end true fits in absurd cc
      by_test false late = leb-false (log_end rs) last_end late

-- ---- all of it

-- what a rebuild does that salvages this and keeps these messages
abbrev does_of : ℕ → Salvaged → Sifted → ℕ → Rebuild
does_of now salvaged sifted indexid = record {
  salvaged = salvaged;
  kept = sifted.kept;
  skipped = sifted.skipped;
  indexid = indexid;
  stamp = stamp_of now;
}

abbrev rebuild_is : (folder : Folder) (now : ℕ) (texts : Texts) (numbers : List ℕ) (sifted : Sifted) (salvaged : Salvaged) (used : List ℕ) (sources : Sources) (indexid : ℕ) → AreTexts folder texts → AreNumbersOf texts.names numbers → IsSifted folder numbers sifted
    → Salvages texts salvaged used sources → indexid ≡ new_indexid used now → IsRebuild folder now (does_of now salvaged sifted indexid)
rebuild_is folder now texts numbers sifted salvaged used sources indexid read are sifts s named = record {
  salvages = record {
    log = s.log;
    rotated = s.rotated;
    index = s.index;
    log_file = subst (λ (x : Option (List ℕ)). IsLogFront x s.log) read.log s.log_file;
    rotated_file = subst (λ (x : Option (List ℕ)). IsScanned x s.rotated) read.rotated s.rotated_file;
    index_file = subst (λ (x : Option (List ℕ)). IsIndex x s.index) read.index s.index_file;
    is = s.is;
  };
  rotated = s.used_are.header;
  rotated_header = subst (λ (x : Option (List ℕ)). IsHeaderIn x s.used_are.header) read.rotated s.used_are.there;
  numbers = numbers;
  mails = mail_numbers folder texts.names numbers read.names are;
  keeps = sifts.kept;
  skips = sifts.skipped;
  named = named ∙ ap (λ (used : List ℕ). new_indexid used now) s.used_are.are;
  made = refl;
}

pub prepared : (folder : Folder) (now : ℕ) (texts : Texts) (numbers : List ℕ) (sifted : Sifted) (log : NewLog) (rebuilt : Rebuilt) → AreTexts folder texts → AreNumbersOf texts.names numbers → IsSifted folder numbers sifted → IsPlan texts sifted.kept now log
    → rebuilt.kept ≡ length sifted.kept → rebuilt.skipped ≡ sifted.skipped → rebuilt.indexid ≡ log.indexid → rebuilt.report.remains ≡ log.remains → rebuilt.report.skips ≡ sifted.skips → rebuilt.report.has_cache ≡ list_any is_cache texts.names
    → IsPrepared folder now (log, rebuilt)
prepared folder now texts numbers sifted log rebuilt read are sifts plan kept skipped indexid remains skips cache =
    let s = plan.salvages in
    let told = remains ∙ plan.remains in
    let there : there_in texts ≡ reports.there_in folder = λ i. record { log = is_some (read.log i); rotated = is_some (read.rotated i); index = is_some (read.index i) } in
    let does = does_of now plan.salvaged sifted log.indexid in
    let is = rebuild_is folder now texts numbers sifted plan.salvaged plan.used plan.sources log.indexid read are sifts s plan.named in
    record {
      does = does;
      is = is;
      fits = le-leb (log_end (rebuilt_records plan.salvaged sifted.kept log.indexid)) last_end plan.fits;
      text = plan.text;
      tells = record { kept = kept; skipped = skipped; indexid = indexid };
      reports = record {
        sources = ap (λ (r : Remains). r.sources) told ∙ s.sources_are ∙ (λ i. sources_in (there i) s.log s.rotated s.index);
        is_cut = ap (λ (r : Remains). r.is_cut) told;
        unknown = ap (λ (r : Remains). r.unknown) told;
        validity = ap (λ (r : Remains). r.validity) told;
        skips = skips ∙ sifts.skips;
        has_cache = cache ∙ cache_listed folder texts.names read.names;
      };
      good = plan.good;
      records = plan.records;
      left = plan.left;
    }

pub too_long : (folder : Folder) (now : ℕ) (texts : Texts) (numbers : List ℕ) (sifted : Sifted) → AreTexts folder texts → AreNumbersOf texts.names numbers → IsSifted folder numbers sifted → plans.IsTooLong texts sifted.kept now → IsTooLong folder now
too_long folder now texts numbers sifted read are sifts plan =
    let indexid = new_indexid plan.used now in
    let does = does_of now plan.salvaged sifted indexid in
    record {
      does = does;
      is = rebuild_is folder now texts numbers sifted plan.salvaged plan.used plan.sources indexid read are sifts plan.salvages refl;
      long = lt-leb (log_end (records_of does)) last_end plan.long;
    }
