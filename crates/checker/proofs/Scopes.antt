-- A binder's entry in the scope, and what is made and then left alone.
use Prim.Native.Nat.{ℕ, ◌<◌}
use Rattle.std.specs.Prelude.{Option, None, Some}
use Rattle.std.proofs.lemmas.Option.{same_Some}
use mathlib.Core.Path.{◌≡◌, sym, ap, ◌∙◌}
use mathlib.Core.Logic.{by_cases}
use mathlib.Core.List.{List}
use native.Mathlib.Omega.{arith}
use native.Mathlib.Decide.{ℕ_discrete}
use lib.ListN.{length, get_or, set, length-set}
use lib.Seq.{get_or-set_same, get_or-set_other, ext_get_or}
use Rattle.definitions.specs.Name.{Name}
use Rattle.definitions.specs.Prop.{rename_prop}
use Rattle.definitions.specs.CheckingRules.{Context, bind, lookup}
use Rattle.definitions.proofs.Names.{eq_name_refl, eq_name_of_ne}
use Rattle.prefix_code.specs.PropAt.{prop_at}
use Rattle.prop_numbers.specs.Standing.{Distinct, Stood, name_space}
use Rattle.checker.specs.Scope.{Entries, Scoped, entry_prop}

-- Of a name, and a proposition that stands:
module _ (code : List ℕ) (scope : List (Option ℕ)) (x p : ℕ) (known : x < name_space) (stood : Stood code p) (s : Entries code scope) where
  -- the scope under the binder
  pub bound_scope : (f : ℕ → Name) (g : Context) → Distinct f → Scoped f code scope g
      → Scoped f code (set scope x (Some p)) (bind (f x) (rename_prop f (prop_at name_space code p)) g)
  unfolding lookup entry_prop Scoped Distinct
  bound_scope f g one sc y h = by_cases (ℕ_discrete x y)
      (λ same. rw (← same, eq_name_refl (f x), get_or-set_same scope x (Some p) None (omega (arith, s.long))))
      (λ other. rw (eq_name_of_ne {x = f x} {y = f y} (λ e. other (one x y e)), get_or-set_other scope x y (Some p) None (λ e. other (sym e)))
      (sc y h))

  pub bound_entries : Entries code (set scope x (Some p))
  bound_entries = record {
    long = rw length-set s.long;
    entry = λ y q h e. by_cases (ℕ_discrete x y)
        (λ same.
        let is : Some p ≡ Some q = sym (get_or-set_same scope x (Some p) None (omega (arith, s.long))) ∙ (ap (λ (i : ℕ). get_or (set scope x (Some p)) i None) same ∙ e) in
        let value : p ≡ q = same_Some p q is in
        rw (← value) stood)
        (λ other. s.entry y q h (sym (get_or-set_other scope x y (Some p) None (λ e. other (sym e))) ∙ e));
  }

-- an entry that is set and put back
pub put_back : (scope : List (Option ℕ)) (x : ℕ) (v : Option ℕ) → x < length scope → set (set scope x v) x (get_or scope x None) ≡ scope
put_back scope x v h = ext_get_or None _ _ (simp length-set) (λ i l. by_cases (ℕ_discrete x i)
    (λ same. rw (← same, get_or-set_same (set scope x v) x (get_or scope x None) None (rw length-set h)))
    (λ other. get_or-set_other (set scope x v) x i (get_or scope x None) None (λ e. other (sym e)) ∙ get_or-set_other scope x i v None (λ e. other (sym e))))
