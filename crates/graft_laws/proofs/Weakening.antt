-- A deduction holds from more hypotheses, where none of them has the name of one that it adds.
use mathlib.Core.Path.{◌≡◌, refl}
use mathlib.Core.Bool.{false}
use mathlib.Core.List.{List, [], ◌∷◌, ◌++◌, Memᴰ}
use Rattle.definitions.specs.Collection.{In, here, later}
use Rattle.definitions.specs.Name.{Name, eq_name}
use Rattle.definitions.specs.Prop.{Prop}
use Rattle.definitions.specs.Tree.{Identifier, ImplIntro, OrElim, Step, ProofTree, over, Premisses, none, ◌and◌}
use Rattle.definitions.specs.Sound.{Hypothesis, Hypotheses, Deduction, and_intro, and_elim_fst, and_elim_snd, true_intro, impl_intro, impl_elim, ident, or_intro_fst, or_intro_snd, or_elim, falsum_elim, sorry, alpha_equivalent, Fresh, documented}
use Rattle.definitions.proofs.Collections.{in_left, in_right}
use Rattle.graft_laws.specs.Scope.{added_by, added, all_of, binders, binders_among}

-- none of the hypotheses has the name
unfoldable pub Unnamed : Name → Hypotheses → Type 0
Unnamed x [] = Unit {0}
Unnamed x (h ∷ hs) = (eq_name x h.identifier.name ≡ false) × Unnamed x hs

fresh_more : (x : Identifier Name) (hs gs : Hypotheses) → Fresh x hs → Unnamed x.name gs → Fresh x (hs ++ gs)
unfolding Fresh Unnamed
fresh_more x [] [] f u = tt
fresh_more x [] (g ∷ gs) f u = (u.0, fresh_more x [] gs tt u.1)
fresh_more x (h ∷ hs) gs f u = (f.0, fresh_more x hs gs f.1 u)

among_more : {h : Hypothesis} {hs : Hypotheses} (gs : Hypotheses) → Memᴰ h hs → Memᴰ h (hs ++ gs)
among_more gs (Memᴰ.head p) = Memᴰ.head p
among_more gs (Memᴰ.tail i) = Memᴰ.tail (among_more gs i)

-- what a step adds, its tree adds
added_by_implication : (z : Step Name) (ps : Premisses Name) → z.rule ≡ ImplIntro → In z.first.name (binders (over z ps))
unfolding binders added added_by all_of
added_by_implication z ps e = rw e (here refl)

added_by_cases : (z : Step Name) (ps : Premisses Name) → z.rule ≡ OrElim
    → In z.first.name (binders (over z ps)) × In z.second.name (binders (over z ps))
unfolding binders added added_by all_of
added_by_cases z ps e = rw e (here refl, later (here refl))

module _ (gs : Hypotheses) where
  -- none of these hypotheses has one of the names
  abbrev pub Clear : List Name → Type 0
  Clear xs = (x : Name) → In x xs → Unnamed x gs

  -- what a premiss adds, the tree adds
  premisses_clear : (z : Step Name) (ps : Premisses Name) → Clear (binders (over z ps)) → Clear (binders_among ps)
  unfolding binders
  premisses_clear z ps clear x i = clear x (in_right (all_of (added z)) i)

  first_clear : (s : ProofTree Name) (ps : Premisses Name) → Clear (binders_among (s and ps)) → Clear (binders s)
  unfolding binders
  first_clear s ps clear x i = clear x (in_left (binders_among ps) i)

  later_clear : (s : ProofTree Name) (ps : Premisses Name) → Clear (binders_among (s and ps)) → Clear (binders_among ps)
  unfolding binders
  later_clear s ps clear x i = clear x (in_right (binders s) i)

  -- the first premiss of a step
  only_clear : (z : Step Name) (t : ProofTree Name) (ps : Premisses Name) → Clear (binders (over z (t and ps))) → Clear (binders t)
  only_clear z t ps clear = first_clear t ps (premisses_clear z (t and ps) clear)

  -- and the second
  next_clear : (z : Step Name) (s t : ProofTree Name) (ps : Premisses Name) → Clear (binders (over z (s and t and ps))) → Clear (binders t)
  next_clear z s t ps clear = first_clear t ps (later_clear s (t and ps) (premisses_clear z (s and t and ps) clear))

  pub weaken : {hs : Hypotheses} {t : ProofTree Name} {a : Prop Name} → Deduction documented hs t a → Clear (binders t)
      → Deduction documented (hs ++ gs) t a
  unfolding documented
  weaken (and_intro {z = z} {s = s} {t = t} c d e) clear =
      and_intro c (weaken d (only_clear z s (t and none) clear)) (weaken e (next_clear z s t none clear))
  weaken (and_elim_fst {z = z} {t = t} c d) clear = and_elim_fst c (weaken d (only_clear z t none clear))
  weaken (and_elim_snd {z = z} {t = t} c d) clear = and_elim_snd c (weaken d (only_clear z t none clear))
  weaken (true_intro c p) clear = true_intro c p
  weaken (impl_intro {hs = hs} {z = z} {t = t} c f d) clear =
      impl_intro c (fresh_more z.first hs gs f (clear z.first.name (added_by_implication z (t and none) c.rule)))
      (weaken d (only_clear z t none clear))
  weaken (impl_elim {z = z} {s = s} {t = t} c d e) clear =
      impl_elim c (weaken d (only_clear z s (t and none) clear)) (weaken e (next_clear z s t none clear))
  weaken (ident c i p) clear = ident c (among_more gs i) p
  weaken (or_intro_fst {z = z} {t = t} c d) clear = or_intro_fst c (weaken d (only_clear z t none clear))
  weaken (or_intro_snd {z = z} {t = t} c d) clear = or_intro_snd c (weaken d (only_clear z t none clear))
  weaken (or_elim {hs = hs} {z = z} {r = r} {s = s} {t = t} c d f e g h) clear =
      let (first, second) = added_by_cases z (r and s and t and none) c.rule in
      let after = later_clear r (s and t and none) (premisses_clear z (r and s and t and none) clear) in
      or_elim c (weaken d (only_clear z r (s and t and none) clear))
      (fresh_more z.first hs gs f (clear z.first.name first)) (weaken e (next_clear z r s (t and none) clear))
      (fresh_more z.second hs gs g (clear z.second.name second)) (weaken h (first_clear t none (later_clear s (t and none) after)))
  weaken (falsum_elim {z = z} {t = t} c d) clear = falsum_elim c (weaken d (only_clear z t none clear))
  weaken (sorry c p) clear = sorry c p
  weaken (alpha_equivalent {z = z} {t = t} {ps = ps} c p d) clear = alpha_equivalent c p (weaken d (only_clear z t ps clear))
