-- Trees that differ in the numbers of their steps and in identifiers that a rule lacks: a deduction of the one is one of the other.
use Prim.Native.Nat.{ℕ}
use mathlib.Core.Path.{◌≡◌, refl, sym, ap, ◌∙◌}
use mathlib.Core.Bool.{Bool, true, false, cond}
use mathlib.Core.List.{Memᴰ}
use native.Mathlib.Decide.{ℕ_discrete}
use native.Mathlib.Omega.{arith}
use lib.Dec.{eqb, leb}
use borrow.Author.Tests.{eq-eqb, ne_eqb}
use Rattle.definitions.specs.Name.{Name}
use Rattle.definitions.specs.Prop.{Prop}
use Rattle.definitions.specs.Tree as tree
use Rattle.definitions.specs.Tree.{Identifier, ProofTreeRule, ImplIntro, OrElim, identifier_count, Step, ProofTree, over, Premisses, none, ◌and◌, rename_step, rename_tree, rename_premisses}
use Rattle.definitions.specs.Sound.{Hypotheses, assume, Concludes, Deduction, and_intro, and_elim_fst, and_elim_snd, true_intro, impl_intro, impl_elim, ident, or_intro_fst, or_intro_snd, or_elim, falsum_elim, sorry, alpha_equivalent, Fresh, documented}
use Rattle.graft_laws.proofs.Trees.{graft_tree, graft_premisses, renumber_step, renumber_tree, renumber_premisses, map_tree, map_premisses, tidy_identifier, tidy_step, named_step}

-- the same rule and conclusion, and the same identifiers where the rule has them
pub record SameStep (z z' : Step Name) : Type 0 where
  pub rule : z'.rule ≡ z.rule
  pub conclusion : z'.conclusion ≡ z.conclusion
  pub first : leb 1 (identifier_count z.rule) ≡ true → z'.first ≡ z.first
  pub second : leb 2 (identifier_count z.rule) ≡ true → z'.second ≡ z.second

mutual
  pub data Alike : ProofTree Name → ProofTree Name → Type 0 where
    alike : {z z' : Step Name} {ps qs : Premisses Name} → SameStep z z' → AllAlike ps qs → Alike (over z ps) (over z' qs)

  pub data AllAlike : Premisses Name → Premisses Name → Type 0 where
    done : AllAlike none none
    next : {s t : ProofTree Name} {ps qs : Premisses Name} → Alike s t → AllAlike ps qs → AllAlike (s and ps) (t and qs)

also : {z z' : Step Name} {r : ProofTreeRule} {a : Prop Name} → SameStep z z' → Concludes z r a → Concludes z' r a
also s c = record { rule = s.rule ∙ c.rule; conclusion = s.conclusion ∙ c.conclusion }

none_read : {ps qs : Premisses Name} → AllAlike ps qs → ps ≡ none → qs ≡ none
none_read done e = refl
none_read (next x xs) e = absurd (grind arith)

-- a rule with identifiers has the first, and OrElim both
one_identifier : (r s : ProofTreeRule) → r ≡ s → leb 1 (identifier_count s) ≡ true → leb 1 (identifier_count r) ≡ true
one_identifier r s e h = rw e h

two_identifiers : (r : ProofTreeRule) → r ≡ OrElim → leb 2 (identifier_count r) ≡ true
unfolding identifier_count
two_identifiers r e = rw e

pub deduced_alike : {hs : Hypotheses} {t t' : ProofTree Name} {a : Prop Name} → Deduction documented hs t a → Alike t t'
    → Deduction documented hs t' a
unfolding documented identifier_count
deduced_alike (and_intro c d e) (alike s (next x (next y done))) = and_intro (also s c) (deduced_alike d x) (deduced_alike e y)
deduced_alike (and_elim_fst c d) (alike s (next x done)) = and_elim_fst (also s c) (deduced_alike d x)
deduced_alike (and_elim_snd c d) (alike s (next x done)) = and_elim_snd (also s c) (deduced_alike d x)
deduced_alike (true_intro c p) (alike s xs) = true_intro (also s c) (none_read xs p)
deduced_alike (impl_intro {hs = hs} {z = z} {a = a} {b = b} c f d) (alike {z' = z'} s (next {t = t} x done)) =
    let same = s.first (one_identifier z.rule ImplIntro c.rule refl) in
    let fresh : Fresh z'.first hs = rw same f in
    let body : Deduction documented (assume z'.first a hs) t b = rw same (deduced_alike d x) in
    impl_intro (also s c) fresh body
deduced_alike (impl_elim c d e) (alike s (next x (next y done))) = impl_elim (also s c) (deduced_alike d x) (deduced_alike e y)
deduced_alike (ident {hs = hs} {z = z} {a = a} c i p) (alike {z' = z'} s xs) =
    let same = s.first (one_identifier z.rule tree.Ident c.rule refl) in
    let known : Memᴰ (record { identifier = z'.first; prop = a }) hs = rw same i in
    ident (also s c) known (none_read xs p)
deduced_alike (or_intro_fst c d) (alike s (next x done)) = or_intro_fst (also s c) (deduced_alike d x)
deduced_alike (or_intro_snd c d) (alike s (next x done)) = or_intro_snd (also s c) (deduced_alike d x)
deduced_alike (or_elim {hs = hs} {z = z} {a = a} {b = b} {c = p} c d f e g h) (alike {z' = z'} s (next x (next {t = t} y (next {t = u} w done)))) =
    let same = s.first (one_identifier z.rule OrElim c.rule refl) in
    let same' = s.second (two_identifiers z.rule c.rule) in
    let fresh : Fresh z'.first hs = rw same f in
    let left : Deduction documented (assume z'.first a hs) t p = rw same (deduced_alike e y) in
    let fresh' : Fresh z'.second hs = rw same' g in
    let right : Deduction documented (assume z'.second b hs) u p = rw same' (deduced_alike h w) in
    or_elim (also s c) (deduced_alike d x) fresh left fresh' right
deduced_alike (falsum_elim c d) (alike s (next x done)) = falsum_elim (also s c) (deduced_alike d x)
deduced_alike (sorry c p) (alike s xs) = sorry (also s c) (none_read xs p)
deduced_alike (alpha_equivalent c p d) (alike s (next x xs)) = alpha_equivalent (also s c) (none_read xs p) (deduced_alike d x)

-- an identifier that the rule has stays
kept : (has : Bool) (x : Identifier Name) → has ≡ true → tidy_identifier has x ≡ x
unfolding tidy_identifier
kept true x e = refl
kept false x e = absurd (grind arith)

-- a step over names as bytes, with and without the identifiers that its rule lacks, whatever its number
untidied : (n : ℕ → Name) (z : Step ℕ) → SameStep (named_step n z) (rename_step n z)
unfolding named_step tidy_step rename_step
untidied n z = record { rule = refl; conclusion = refl; first = λ e. sym (kept _ _ e); second = λ e. sym (kept _ _ e) }

tidied : (n : ℕ → Name) (f : ℕ → ℕ) (z : Step ℕ) → SameStep (rename_step n z) (renumber_step f (named_step n z))
unfolding named_step tidy_step rename_step renumber_step
tidied n f z = record { rule = refl; conclusion = refl; first = λ e. kept _ _ e; second = λ e. kept _ _ e }

-- a tree over names as bytes, tidied or not
mutual
  unfolding map_tree rename_tree

  pub alike_untidied : (n : ℕ → Name) (t : ProofTree ℕ) → Alike (map_tree (named_step n) t) (rename_tree n t)
  alike_untidied n (over z ps) = alike (untidied n z) (all_untidied n ps)

  all_untidied : (n : ℕ → Name) (ps : Premisses ℕ) → AllAlike (map_premisses (named_step n) ps) (rename_premisses n ps)
  all_untidied n none = done
  all_untidied n (t and ps) = next (alike_untidied n t) (all_untidied n ps)

mutual
  unfolding map_tree rename_tree renumber_tree

  pub alike_tidied : (n : ℕ → Name) (f : ℕ → ℕ) (t : ProofTree ℕ) → Alike (rename_tree n t) (renumber_tree f (map_tree (named_step n) t))
  alike_tidied n f (over z ps) = alike (tidied n f z) (all_tidied n f ps)

  all_tidied : (n : ℕ → Name) (f : ℕ → ℕ) (ps : Premisses ℕ)
      → AllAlike (rename_premisses n ps) (renumber_premisses f (map_premisses (named_step n) ps))
  all_tidied n f none = done
  all_tidied n f (t and ps) = next (alike_tidied n f t) (all_tidied n f ps)

-- alike trees in place of step k of a tree that is numbered otherwise but for step k
module _ (n : ℕ → Name) (f : ℕ → ℕ) (k : ℕ) (fixed : f k ≡ k) (others : (i : ℕ) → (i ≡ k → ⊥) → f i ≡ k → ⊥)
    {d d' : ProofTree Name} (donors : Alike d d') where
  same_test : (i : ℕ) → eqb (f i) k ≡ eqb i k
  same_test i = go (ℕ_discrete i k)
    where
      go : Dec (i ≡ k) → eqb (f i) k ≡ eqb i k
      go (yes e) = eq-eqb (f i) k (ap f e ∙ fixed) ∙ sym (eq-eqb i k e)
      go (no e) = ne_eqb (f i) k (others i e) ∙ sym (ne_eqb i k e)

  chosen : (b b' : Bool) → b' ≡ b → (t t' : ProofTree Name) → Alike t t' → Alike (cond b d t) (cond b' d' t')
  chosen true b' e t t' same = rw e donors
  chosen false b' e t t' same = rw e same

  mutual
    unfolding graft_tree renumber_tree map_tree rename_tree renumber_step named_step tidy_step rename_step

    pub alike_grafted : (t : ProofTree ℕ) → Alike (graft_tree k d (rename_tree n t)) (graft_tree k d' (renumber_tree f (map_tree (named_step n) t)))
    alike_grafted (over z ps) =
        chosen (eqb z.number k) (eqb (f z.number) k) (same_test z.number) _ _ (alike (tidied n f z) (all_grafted ps))

    all_grafted : (ps : Premisses ℕ)
        → AllAlike (graft_premisses k d (rename_premisses n ps)) (graft_premisses k d' (renumber_premisses f (map_premisses (named_step n) ps)))
    all_grafted none = done
    all_grafted (t and ps) = next (alike_grafted t) (all_grafted ps)
