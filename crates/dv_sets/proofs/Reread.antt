-- What is printed of a set is a text of it.
use Rattle.std.proofs.Common.{◌≡◌, inl, inr, ℕ, Bool, true, false, cond, List, [], ◌∷◌, ◌++◌, map, codes, refl, ap, subst}
use Rattle.std.specs.List.{AllZip}
use Rattle.std.proofs.lemmas.Bool.{eqb-true}
use Rattle.dv_model.specs.declared.types.End.{End}
use Rattle.dv_model.specs.declared.types.End.TheVariants.{Number, Star}
use Rattle.dv_model.specs.declared.types.Span.{Span}
use Rattle.dv_formats.specs.Printing.{are_equal, end_text, set_text, span_text}
use Rattle.dv_formats.specs.Scripts.{IsEnd, IsSet, IsSpan}

printed_end : (end : End) (b : List ℕ) → IsEnd end b → IsEnd end (end_text end)
printed_end (Number n) b is = (is.0, is.1, refl)
printed_end Star b is = refl

same_ends : (from to : End) → are_equal from to ≡ true → from ≡ to
same_ends (Number m) (Number n) e = ap Number (eqb-true m n e)
same_ends (Number m) Star e = cc
same_ends Star (Number n) e = cc
same_ends Star Star e = refl

by_test : (span : Span) (t : Bool) → are_equal span.from span.to ≡ t
    → IsEnd span.from (end_text span.from) → IsEnd span.to (end_text span.to)
    → IsSpan span (cond t (end_text span.from) (end_text span.from ++ codes ":" ++ end_text span.to))
by_test span true e from to = inr (same_ends span.from span.to e, from)
by_test span false e from to = inl (record { from = end_text span.from; to = end_text span.to; ends = (from, to); text = refl })

printed_span : (span : Span) (b : List ℕ) → IsSpan span b → IsSpan span (span_text span)
printed_span span b (inl w) = by_test span (are_equal span.from span.to) refl (printed_end span.from w.from w.ends.0) (printed_end span.to w.to w.ends.1)
printed_span span b (inr s) = let from = printed_end span.from b s.1 in by_test span (are_equal span.from span.to) refl from (to_end span.from span.to s.0 b s.1)
  where
    to_end : (e f : End) → e ≡ f → (t : List ℕ) → IsEnd e t → IsEnd f (end_text f)
    to_end e f same t is = printed_end f t (subst (λ x. IsEnd x t) same is)

printed_spans : (set : List Span) (texts : List (List ℕ)) → AllZip IsSpan set texts
    → AllZip IsSpan set (map span_text set)
printed_spans [] [] all = tt
printed_spans [] (t ∷ ts) all = absurd all
printed_spans (s ∷ set) [] all = absurd all
printed_spans (s ∷ set) (t ∷ ts) all = (printed_span s t all.0, printed_spans set ts all.1)

pub printed_set : (set : List Span) (b : List ℕ) → IsSet set b → IsSet set (set_text set)
printed_set set b is = record { some = is.some; spans = map span_text set; each = printed_spans set is.spans is.each; text = refl }
