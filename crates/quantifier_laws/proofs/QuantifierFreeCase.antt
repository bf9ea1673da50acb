-- The accuracy statement for sheets without quantifiers, as a case of the one with quantifiers.
use Prim.Native.Nat.{ℕ}
use mathlib.Core.Path.{◌≡◌, refl, ◌∙◌, ap}
use mathlib.Core.Bool.{Bool, true, false, cond}
use Rattle.std.specs.Prelude.{Some}
use mathlib.Core.List.{List, [], ◌∷◌}
use Rattle.definitions.specs.Outcome.{accepted}
use Rattle.definitions.specs.Name.{Name, eq_name}
use Rattle.definitions.specs.Prop.{Prop}
use Rattle.definitions.specs.AlphaEquality.{Nameless, nameless}
use Rattle.definitions.specs.Sheet.{name_of}
use Rattle.definitions.specs.Tree.{ProofTreeRule, Step, ProofTree, over, rename_tree}
use Rattle.definitions.specs.Export.{checking}
use Rattle.definitions.specs.CheckingRules as rules
use Rattle.definitions.specs.Sound as plain
use Rattle.definitions.specs.Accuracy as plain-accuracy
use Rattle.definitions.proofs.CheckerComplete.{checks_complete}
use Rattle.definitions.proofs.Conventions as plain-conventions
use Rattle.quantifier_laws.specs.Instantiation.{among}
use Rattle.quantifier_laws.specs.Rules.{proves, lookup, objects, object_before}
use Rattle.quantifier_laws.specs.Sound as sound
use Rattle.quantifier_laws.specs.Sound.{Scope, assume, entries, objects_of, among_fact, among_entries, context, Concludes, Deduction, Deduced, shadowing}
use Rattle.quantifier_laws.proofs.Instantiation.{among_none}
use Rattle.quantifier_laws.proofs.QuantifierFree.{Free}
use Rattle.quantifier_laws.proofs.Conservative as conservative
use Rattle.quantifier_laws.proofs.Conservative.{checks_plain}
use Rattle.quantifier_laws.proofs.PlainTrees.{PlainTree, plain_renamed, sound_plain}
use Rattle.quantifier_laws.proofs.PlainLabels.{plain_labels, count_same}
use Rattle.quantifier_laws.proofs.Accuracy.{accuracy}

-- the hypotheses as a scope
unfoldable pub embed : plain.Hypotheses → Scope
embed [] = []
embed (h ∷ hs) = assume h.identifier (proves (nameless [] h.prop)) (embed hs)

no_objects : (hs : plain.Hypotheses) → objects_of (embed hs) ≡ []
unfolding embed entries objects object_before
no_objects [] = refl
no_objects (h ∷ hs) = no_objects hs

found : (x : Name) (hs : plain.Hypotheses) {a : Prop Name} → rules.lookup x (plain.context hs) ≡ Some a
    → lookup x (among_entries [] (entries (embed hs))) ≡ Some (proves (nameless [] a))
unfolding plain.context rules.lookup embed entries among_entries lookup among_fact
found x [] l = cc
found x (h ∷ hs) {a} l = go (eq_name h.identifier.name x) (λ k. found x hs k) l
  where
    go : (b : Bool) → (rules.lookup x (plain.context hs) ≡ Some a → lookup x (among_entries [] (entries (embed hs))) ≡ Some (proves (nameless [] a)))
        → cond b (Some h.prop) (rules.lookup x (plain.context hs)) ≡ Some a
        → cond b (Some (proves (among [] (nameless [] h.prop)))) (lookup x (among_entries [] (entries (embed hs)))) ≡ Some (proves (nameless [] a))
    go true rest l = rw among_none (let same : h.prop ≡ a = cc in cc)
    go false rest l = rest l

latest : (x : Name) (hs : plain.Hypotheses) {a : Prop Name} → rules.lookup x (plain.context hs) ≡ Some a
    → lookup x (context (embed hs)) ≡ Some (among_fact (objects_of (embed hs)) (proves (nameless [] a)))
unfolding context among_fact
latest x hs {a} l = rw (no_objects hs, among_none (nameless [] a)) (found x hs l)

-- a step's conclusion in its nameless form
pub conclude : {z : Step Name} {r : ProofTreeRule} {p : Prop Name} {a : Nameless} → plain.Concludes z r p → nameless [] p ≡ a → Concludes z r a
conclude {p = p} c e = record { rule = c.rule; prop = p; conclusion = c.conclusion; form = e }

-- a deduction without quantifiers is one with them
deduction : {hs : plain.Hypotheses} {t : ProofTree Name} {p : Prop Name}
    → plain.Deduction plain.shadowing hs t p → Deduction shadowing (embed hs) t (nameless [] p)
unfolding plain.shadowing shadowing nameless embed
deduction (plain.and_intro c d e) = sound.and_intro (conclude c refl) (deduction d) (deduction e)
deduction (plain.and_elim_fst c d) = sound.and_elim_fst (conclude c refl) (deduction d)
deduction (plain.and_elim_snd c d) = sound.and_elim_snd (conclude c refl) (deduction d)
deduction (plain.true_intro c u) = sound.true_intro (conclude c refl) tt
deduction (plain.impl_intro c n d) = sound.impl_intro (conclude c refl) tt (deduction d)
deduction (plain.impl_elim c d e) = sound.impl_elim (conclude c refl) (deduction d) (deduction e)
deduction {hs = hs} (plain.ident {z = z} c i u) = sound.Deduction.ident (conclude c refl) (latest z.first.name hs i) tt
deduction (plain.or_intro_fst c d) = sound.or_intro_fst (conclude c refl) (deduction d)
deduction (plain.or_intro_snd c d) = sound.or_intro_snd (conclude c refl) (deduction d)
deduction (plain.or_elim c d n e o f) = sound.or_elim (conclude c refl) (deduction d) tt (deduction e) tt (deduction f)
deduction (plain.falsum_elim c d) = sound.falsum_elim (conclude c refl) (deduction d)
deduction (plain.sorry c u) = sound.sorry (conclude c refl) tt
deduction (plain.alpha_equivalent c u d) = sound.alpha_equivalent (conclude c refl) tt (deduction d)

pub deduced : (s : List ℕ) → plain.Deduced plain.shadowing s → Deduced shadowing s
unfolding embed
deduced s d =
    record {
      root = d.root;
      is_admitted = d.is_admitted;
      prop = d.prop;
      deduction = deduction d.deduction;
    }

-- the root of a plain tree concludes a proposition without quantifiers
root_free : (t : ProofTree Name) {p : Prop Name} → PlainTree t → plain.Deduction plain.shadowing [] t p → Free p
root_free (over z ps) h d = rw (plain-conventions.concludes d) at h.0.conclusion

-- demand 3 for a plain tree, from demand 3 with quantifiers
pub plain_tree_accuracy : (s : List ℕ) (d : plain.Deduced plain.shadowing s) → PlainTree d.root → plain-accuracy.Accurate s d
unfolding deduced
plain_tree_accuracy s d h =
    let a = accuracy s (deduced s d) in
    let tree = plain_renamed (name_of s) d.root h in
    let term = plain_labels tree a.labels in
    let is_accepted = checks_plain conservative.none term.is_free d.prop refl
    (root_free (rename_tree (name_of s) d.root) tree d.deduction) a.is_accepted in
    record {
      term = a.term;
      is_term = a.is_term;
      heading = a.heading;
      texts = a.texts;
      is_accepted = is_accepted;
      judged = checks_complete is_accepted 0;
      labels = term.labelled;
      count = a.count ∙ ap accepted (count_same d.root checking h);
    }

-- demand 3 for document 01's sound sheets
pub quantifier_free_accuracy : (s : List ℕ) (d : plain.Sound s)
    → plain-accuracy.Accurate s (plain-conventions.deduced_shadowing s d.deduced)
quantifier_free_accuracy s d =
    let weak = plain-conventions.deduced_shadowing s d.deduced in
    plain_tree_accuracy s weak (sound_plain s d weak.root weak.is_admitted)
