-- The signs are looked for in turn, and the row of the first that stands there has the sign.
use Prim.Native.Nat.{ℕ, ◌≤◌}
use mathlib.Core.Path.{◌≡◌, refl, ap, ◌∙◌}
use mathlib.Core.Bool.{Bool, true, false, cond}
use mathlib.Core.List.{List}
use lib.Dec.{eqb}
use lib.ListN.{length, drop, take}
use borrow.Author.Rules.{rules}
use borrow.Author.Tests.{tests}
use Rattle.std.proofs.Common.{Bor, ◌-◌}
use Rattle.std.specs.Prelude.{Option, None, Some, MatchOption}
use Rattle.std.specs.Option.{option_map}
use Rattle.std.specs.List.{starts_with}
use Rattle.std.proofs.lemmas.Iterator.{YieldsList-from_slice}
use Rattle.std.proofs.lemmas.Iterator.Search.{find_from_yields_List}
use Rattle.definitions.specs.Utf8.{utf8}
use Rattle.definitions.specs.TermReader.{sign}
use Rattle.prop_parts.proofs.Rows.{mapped_row}
use Rattle.words.proofs.Runs.{expect_found, expect_fails}
use Rattle.prefix_code.specs.declared.Quantifier.TheVariants.{ForAll, Exists}
use Rattle.prop_parts.specs.declared.Constant.TheVariants.{Top, Bottom}
use Rattle.prop_parts.specs.declared.Opening.TheVariants.{Negation, Bracket, Binder}
use Rattle.prop_parts.specs.declared.Sign.{Sign}
use Rattle.prop_parts.specs.declared.Sign.TheVariants as read
use Rattle.prop_parts.specs.Found.{SignAt}
use Rattle.prop_parts.proofs.Signs.{top_found, bottom_found, negation_found, bracket_found, all_found, some_found, no_sign}
use Rattle.prop_parts.proofs.sign_at.Goals as goal

-- a row of the table
abbrev Row : Type 0
Row = Bor (List ℕ) × Sign

-- what the sign of a row says, if one was found
abbrev SignFound : List ℕ → ℕ → Option Sign → Type 0
SignFound text at o = MatchOption o (sign (drop at text) ≡ None) (SignAt text at)

module _ (text : List ℕ) (at : ℕ) (le : at ≤ length text) (p q r s t u : Bor (List ℕ)) where
  abbrev front : List ℕ
  front = take (length text - at) (drop at text)

  first_sign : (a b c d e f : Bool) → starts_with eqb front (utf8 "⊤") ≡ a → starts_with eqb front (utf8 "⊥") ≡ b → starts_with eqb front (utf8 "¬") ≡ c → starts_with eqb front (utf8 "(") ≡ d → starts_with eqb front (utf8 "∀") ≡ e → starts_with eqb front (utf8 "∃") ≡ f →
      SignFound text at (option_map (λ (row : Row). row.1) (cond a (Some (p, read.Constant Top)) (cond b (Some (q, read.Constant Bottom)) (cond c (Some (r, read.Opening Negation)) (cond d (Some (s, read.Opening Bracket)) (cond e (Some (t, read.Opening (Binder ForAll))) (cond f (Some (u, read.Opening (Binder Exists))) None)))))))
  first_sign true b c d e f ha hb hc hd he hf = top_found (expect_found text at le (utf8 "⊤") ha)
  first_sign false true c d e f ha hb hc hd he hf = bottom_found (expect_fails text at le (utf8 "⊤") ha) (expect_found text at le (utf8 "⊥") hb)
  first_sign false false true d e f ha hb hc hd he hf = negation_found (expect_fails text at le (utf8 "⊤") ha) (expect_fails text at le (utf8 "⊥") hb) (expect_found text at le (utf8 "¬") hc)
  first_sign false false false true e f ha hb hc hd he hf = bracket_found (expect_fails text at le (utf8 "⊤") ha) (expect_fails text at le (utf8 "⊥") hb) (expect_fails text at le (utf8 "¬") hc) (expect_found text at le (utf8 "(") hd)
  first_sign false false false false true f ha hb hc hd he hf = all_found (expect_fails text at le (utf8 "⊤") ha) (expect_fails text at le (utf8 "⊥") hb) (expect_fails text at le (utf8 "¬") hc) (expect_fails text at le (utf8 "(") hd) (expect_found text at le (utf8 "∀") he)
  first_sign false false false false false true ha hb hc hd he hf = some_found (expect_fails text at le (utf8 "⊤") ha) (expect_fails text at le (utf8 "⊥") hb) (expect_fails text at le (utf8 "¬") hc) (expect_fails text at le (utf8 "(") hd) (expect_fails text at le (utf8 "∀") he) (expect_found text at le (utf8 "∃") hf)
  first_sign false false false false false false ha hb hc hd he hf = no_sign text at (expect_fails text at le (utf8 "⊤") ha) (expect_fails text at le (utf8 "⊥") hb) (expect_fails text at le (utf8 "¬") hc) (expect_fails text at le (utf8 "(") hd) (expect_fails text at le (utf8 "∀") he) (expect_fails text at le (utf8 "∃") hf)

pub returns : goal.returns
returns c =
    let first = find_from_yields_List (λ row. starts_with eqb (take (length c.args.text.now - c.args.at) (drop c.args.at c.args.text.now)) row.0.now) _ _ c.find.result c.find.ensures.ran
    (YieldsList-from_slice _ c.iter.ensures.rest) (λ x b q k. search (rules, tests)) in
    let is = mapped_row _ (λ (row : Row). row.1) c.find.result c.map.result c.map.ensures.cases (λ row s gives. search rules) ∙ ap (option_map (λ (row : Row). row.1)) first in
    rw is (first_sign c.args.text.now c.args.at c.requires _ _ _ _ _ _ _ _ _ _ _ _ refl refl refl refl refl refl)
