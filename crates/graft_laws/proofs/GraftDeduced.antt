-- A deduction with another in place of a sorry, where the other adds no hypothesis of a name in scope there.
use Prim.Native.Nat.{ℕ, ◌≤◌}
use mathlib.Core.Path.{◌≡◌, refl, ap}
use mathlib.Core.Bool.{Bool, true, false, cond}
use mathlib.Core.List.{List, [], ◌++◌}
use native.Mathlib.Omega.{arith}
use native.Mathlib.Decide.{ℕ_discrete}
use lib.ListN.{get_or, drop}
use lib.Dec.{eqb}
use borrow.Author.Tests.{eqb-true, ne_eqb}
use Rattle.definitions.specs.Collection.{In, here}
use Rattle.definitions.specs.Name.{Name}
use Rattle.definitions.specs.Prop.{Prop}
use Rattle.definitions.specs.Tree.{Identifier, ImplIntro, OrElim, PropIsTrue, Step, ProofTree, over, Premisses, none, ◌and◌}
use Rattle.definitions.specs.Sound.{Hypotheses, assume, Deduction, and_intro, and_elim_fst, and_elim_snd, true_intro, impl_intro, impl_elim, ident, or_intro_fst, or_intro_snd, or_elim, falsum_elim, sorry, alpha_equivalent, documented}
use Rattle.definitions.proofs.Collections.{in_left, in_right}
use Rattle.definitions.proofs.Names.{eq_name_of_ne}
use Rattle.graft_laws.specs.Levels.{occurrences}
use Rattle.graft_laws.specs.Scope.{added_by, added, scope, scope_among, binders}
use Rattle.graft_laws.proofs.Trees.{graft_tree, graft_premisses}
use Rattle.graft_laws.proofs.Plugging.{OnlyStep, graft_absent}
use Rattle.graft_laws.proofs.Weakening.{Unnamed, Clear, weaken}

-- what ImplIntro and OrElim add over their premisses
over_first : (z : Step Name) → z.rule ≡ ImplIntro → In z.first.name (get_or (added z) 0 [])
unfolding added added_by
over_first z e = rw e (here refl)

over_second : (z : Step Name) → z.rule ≡ OrElim → In z.first.name (get_or (drop 1 (added z)) 0 [])
unfolding added added_by
over_second z e = rw e (here refl)

over_third : (z : Step Name) → z.rule ≡ OrElim → In z.second.name (get_or (drop 1 (drop 1 (added z))) 0 [])
unfolding added added_by
over_third z e = rw e (here refl)

-- Of step k, which is z₀ and concludes b, and a deduction of b from no hypotheses:
module _ (k : ℕ) (z₀ : Step Name) (b : Prop Name) (concluded : z₀.conclusion ≡ PropIsTrue b) (d : ProofTree Name)
    (donor : Deduction documented [] d b) where
  -- no hypothesis that the donor adds has one of the names
  Apart : List Name → Type 0
  Apart xs = (x : Name) → In x xs → In x (binders d) → ⊥

  one_more : (x : Identifier Name) (a : Prop Name) (hs : Hypotheses) (xs : List Name) → In x.name xs → Apart xs → Clear hs (binders d)
      → Clear (assume x a hs) (binders d)
  unfolding Apart Unnamed
  one_more x a hs xs among apart clear y i = (eq_name_of_ne (λ e. apart x.name among (rw (← e) i)), clear y i)

  of_first : (xs : List (List Name)) (s : ProofTree Name) (ps : Premisses Name) → 1 ≤ occurrences k s
      → Apart (scope_among k xs (s and ps)) → Apart (get_or xs 0 [] ++ scope k s)
  unfolding Apart scope
  of_first xs s ps stands apart x i = apart x (rw (ne_eqb (occurrences k s) 0 (λ e. omega arith)) (in_left (scope_among k (drop 1 xs) ps) i))

  of_later : (xs : List (List Name)) (s : ProofTree Name) (ps : Premisses Name) → Apart (scope_among k xs (s and ps))
      → Apart (scope_among k (drop 1 xs) ps)
  unfolding Apart scope
  of_later xs s ps apart x i = apart x (in_right (cond (eqb (occurrences k s) 0) [] (get_or xs 0 [] ++ scope k s)) i)

  -- step k is replaced, and any other has its premisses grafted
  at_step : {hs : Hypotheses} {a : Prop Name} (z : Step Name) (ps : Premisses Name) → z.conclusion ≡ PropIsTrue a
      → (z.number ≡ k → over z ps ≡ over z₀ none) → Clear hs (binders d) → Deduction documented hs (over z (graft_premisses k d ps)) a
      → Deduction documented hs (graft_tree k d (over z ps)) a
  unfolding graft_tree
  at_step {hs} {a} z ps concludes only clear other = go (eqb z.number k) refl
    where
      go : (t : Bool) → eqb z.number k ≡ t → Deduction documented hs (cond t d (over z (graft_premisses k d ps))) a
      go true e =
          let whole = only (eqb-true z.number k e) in
          let same : a ≡ b = cc in
          rw same (weaken hs donor clear)
      go false e = other

  -- a premiss in which step k does not stand is as it was
  in_premiss : {hs : Hypotheses} {a : Prop Name} (xs : List (List Name)) (s : ProofTree Name) (ps : Premisses Name)
      → Apart (scope_among k xs (s and ps)) → Deduction documented hs s a
      → (Apart (get_or xs 0 []) → Apart (scope k s) → Deduction documented hs (graft_tree k d s) a) → Deduction documented hs (graft_tree k d s) a
  unfolding Apart
  in_premiss {hs} {a} xs s ps apart as-was grafted = go (ℕ_discrete (occurrences k s) 0)
    where
      go : Dec (occurrences k s ≡ 0) → Deduction documented hs (graft_tree k d s) a
      go (yes e) = rw (graft_absent k z₀ d s e) as-was
      go (no e) =
          let both = of_first xs s ps (omega arith) apart in
          grafted (λ x i. both x (in_left (scope k s) i)) (λ x i. both x (in_right (get_or xs 0 []) i))

  pub graft_deduced : {hs : Hypotheses} {t : ProofTree Name} {a : Prop Name} → Deduction documented hs t a → OnlyStep k z₀ t
      → ((x : Name) → In x (scope k t) → In x (binders d) → ⊥) → Clear hs (binders d) → Deduction documented hs (graft_tree k d t) a
  unfolding documented OnlyStep scope graft_tree Apart
  graft_deduced (and_intro {z = z} {s = s} {t = t} c e f) only apart clear =
      at_step z (s and t and none) c.conclusion only.0 clear
      (and_intro c
      (in_premiss (added z) s (t and none) apart e (λ x y. graft_deduced e only.1.0 y clear))
      (in_premiss (drop 1 (added z)) t none (of_later (added z) s (t and none) apart) f (λ x y. graft_deduced f only.1.1.0 y clear)))
  graft_deduced (and_elim_fst {z = z} {t = t} c e) only apart clear =
      at_step z (t and none) c.conclusion only.0 clear
      (and_elim_fst c (in_premiss (added z) t none apart e (λ x y. graft_deduced e only.1.0 y clear)))
  graft_deduced (and_elim_snd {z = z} {t = t} c e) only apart clear =
      at_step z (t and none) c.conclusion only.0 clear
      (and_elim_snd c (in_premiss (added z) t none apart e (λ x y. graft_deduced e only.1.0 y clear)))
  graft_deduced (true_intro {z = z} {ps = ps} c p) only apart clear =
      at_step z ps c.conclusion only.0 clear (true_intro c (ap (graft_premisses k d) p))
  graft_deduced (impl_intro {hs = hs} {z = z} {t = t} {a = a} c f e) only apart clear =
      at_step z (t and none) c.conclusion only.0 clear
      (impl_intro c f
      (in_premiss (added z) t none apart e (λ x y. graft_deduced e only.1.0 y (one_more z.first a hs _ (over_first z c.rule) x clear))))
  graft_deduced (impl_elim {z = z} {s = s} {t = t} c e f) only apart clear =
      at_step z (s and t and none) c.conclusion only.0 clear
      (impl_elim c
      (in_premiss (added z) s (t and none) apart e (λ x y. graft_deduced e only.1.0 y clear))
      (in_premiss (drop 1 (added z)) t none (of_later (added z) s (t and none) apart) f (λ x y. graft_deduced f only.1.1.0 y clear)))
  graft_deduced (ident {z = z} {ps = ps} c i p) only apart clear =
      at_step z ps c.conclusion only.0 clear (ident c i (ap (graft_premisses k d) p))
  graft_deduced (or_intro_fst {z = z} {t = t} c e) only apart clear =
      at_step z (t and none) c.conclusion only.0 clear
      (or_intro_fst c (in_premiss (added z) t none apart e (λ x y. graft_deduced e only.1.0 y clear)))
  graft_deduced (or_intro_snd {z = z} {t = t} c e) only apart clear =
      at_step z (t and none) c.conclusion only.0 clear
      (or_intro_snd c (in_premiss (added z) t none apart e (λ x y. graft_deduced e only.1.0 y clear)))
  graft_deduced (or_elim {hs = hs} {z = z} {r = r} {s = s} {t = t} {a = a} {b = b'} c e f g i j) only apart clear =
      let second = of_later (added z) r (s and t and none) apart in
      let third = of_later (drop 1 (added z)) s (t and none) second in
      at_step z (r and s and t and none) c.conclusion only.0 clear
      (or_elim c
      (in_premiss (added z) r (s and t and none) apart e (λ x y. graft_deduced e only.1.0 y clear))
      f
      (in_premiss (drop 1 (added z)) s (t and none) second g
      (λ x y. graft_deduced g only.1.1.0 y (one_more z.first a hs _ (over_second z c.rule) x clear)))
      i
      (in_premiss (drop 1 (drop 1 (added z))) t none third j
      (λ x y. graft_deduced j only.1.1.1.0 y (one_more z.second b' hs _ (over_third z c.rule) x clear))))
  graft_deduced (falsum_elim {z = z} {t = t} c e) only apart clear =
      at_step z (t and none) c.conclusion only.0 clear
      (falsum_elim c (in_premiss (added z) t none apart e (λ x y. graft_deduced e only.1.0 y clear)))
  graft_deduced (sorry {z = z} {ps = ps} c p) only apart clear =
      at_step z ps c.conclusion only.0 clear (sorry c (ap (graft_premisses k d) p))
  graft_deduced (alpha_equivalent {z = z} {t = t} {ps = ps} c p e) only apart clear =
      at_step z (t and ps) c.conclusion only.0 clear
      (alpha_equivalent c (ap (graft_premisses k d) p) (in_premiss (added z) t ps apart e (λ x y. graft_deduced e only.1.0 y clear)))
