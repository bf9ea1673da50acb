-- The scope that hypotheses fill holds for each name its latest hypothesis.
use Prim.Native.Nat.{ℕ, ◌<◌}
use mathlib.Core.Path.{◌≡◌, refl, sym, ◌∙◌}
use mathlib.Core.Bool.{false, true≢false}
use Rattle.std.specs.Prelude.{Option, Some}
use mathlib.Core.List.{List, [], ◌∷◌}
use lib.ListN.{length, get_or, set, length-set}
use borrow.Author.Tests.{leb-false}
use Rattle.definitions.specs.Name.{Name}
use Rattle.definitions.specs.Prop.{rename_prop}
use Rattle.definitions.specs.Sheet.{name_of, pair_offset}
use Rattle.definitions.specs.CheckingRules.{Context, bind}
use Rattle.definitions.specs.CheckAnswers.{named_prop, assumed}
use Rattle.std.proofs.lemmas.Bool.{or_parts}
use Rattle.prefix_code.specs.PropAt.{prop_at}
use Rattle.prop_numbers.specs.Standing.{name_space, Stood, Distinct}
use Rattle.checker.specs.Scope.{Entries, Scoped}
use Rattle.checker.proofs.Scopes.{bound_scope, bound_entries}
use Rattle.hypotheses.specs.Pairs.{out_of}
use Rattle.hypotheses.specs.Entered.{entered, Enterable}
use Rattle.hypotheses.proofs.Walking.{none_left, Next}

-- One hypothesis after another:
module _ {numbers pairs hs : List ℕ} {first : List (Option ℕ)} (e : Enterable numbers pairs hs first) where
  -- those that are left have to be entered yet, and none of them is out
  pub record Before (left : List ℕ) (scope : List (Option ℕ)) : Type 0 where
    pub same : entered numbers pairs hs first ≡ entered numbers pairs left scope
    pub inside : out_of (length numbers) e.count left ≡ false
    pub space : length scope ≡ name_space

  pub none_entered : Before hs first
  none_entered = record { same = refl; inside = e.inside; space = e.space }

  pub one_entered : {rest pair left : List ℕ} {scope : List (Option ℕ)} → Before rest scope → Next (length numbers) e.count rest pair left
      → {at : ℕ} → at ≡ pair_offset pairs (get_or pair 1 0) → Before left (set scope (get_or numbers (get_or pair 0 0) 0) (Some at))
  unfolding entered
  one_entered b n is = record { same = b.same ∙ rw (n.ahead, is); inside = n.none; space = rw length-set b.space }

  pub all_entered : {left : List ℕ} {scope : List (Option ℕ)} → Before left scope → length left < 2 → scope ≡ entered numbers pairs hs first
  unfolding entered
  all_entered {left} b l = sym (b.same ∙ rw (none_left _ _ left l b.inside))

-- Of a sheet whose names have numbers by a naming, and whose propositions stand in a code under it:
module _ (s numbers pairs code : List ℕ) (count : ℕ) (f : ℕ → Name) (one : Distinct f)
    (low : (x : ℕ) → x < length numbers → get_or numbers x 0 < name_space)
    (named : (x : ℕ) → x < length numbers → f (get_or numbers x 0) ≡ name_of s x)
    (stood : (p : ℕ) → p < count → Stood code (pair_offset pairs p))
    (proposition : (p : ℕ) → p < count → rename_prop f (prop_at name_space code (pair_offset pairs p)) ≡ named_prop s p) where
  pub record Assumed (hs : List ℕ) (scope : List (Option ℕ)) (g : Context) : Type 0 where
    pub entries : Entries code scope
    pub scoped : Scoped f code scope g

  -- the scope holds what was in it and then the hypotheses
  pub scope_assumed : (hs : List ℕ) (scope : List (Option ℕ)) (g : Context) → out_of (length numbers) count hs ≡ false → Assumed [] scope g
      → Assumed hs (entered numbers pairs hs scope) (assumed s hs g)
  unfolding out_of entered assumed
  scope_assumed [] scope g e a = a
  scope_assumed (x ∷ []) scope g e a = absurd (true≢false e)
  scope_assumed (x ∷ p ∷ hs) scope g e a =
      let (name, after) = or_parts _ _ e in
      let (number, rest) = or_parts _ _ after in
      let x-low = leb-false (length numbers) x name in
      let p-low = leb-false count p number in
      let y = get_or numbers x 0 in
      let at = pair_offset pairs p in
      let entries = bound_entries code scope y at (low x x-low) (stood p p-low) a.entries in
      let scoped = bound_scope code scope y at (low x x-low) (stood p p-low) a.entries f g one a.scoped in
      let there = scope_assumed hs (set scope y (Some at)) (bind (name_of s x) (named_prop s p) g) rest
      (record { entries = entries; scoped = rw (named x x-low, proposition p p-low) at scoped }) in
      record { entries = there.entries; scoped = there.scoped }
