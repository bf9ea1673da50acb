-- Sound steps without quantifiers. Document 01, "Sound steps and the checking rules", its first paragraph.
-- Names stand as bytes, so that "equal" (the same shape, name bytes and ids) is plain equality.
use Rattle.std.specs.Prelude.{ℕ, ◌<◌, ◌≡◌, Bool, true, false, ◌&&◌, Some}
use mathlib.Core.List.{List, [], ◌∷◌, map, Memᴰ}
use Rattle.definitions.specs.Outcome.{accepted}
use Rattle.definitions.specs.Name.{Name, eq_name}
use Rattle.definitions.specs.Prop.{Prop, True, False, Binary, Atom, Quantified, And, Or, Impl, PropParameter, Uninstantiated, Instantiated}
use Rattle.definitions.specs.Sheet.{name_of, propositions, steps}
use Rattle.definitions.specs.Tree.{Identifier, ProofTreeRule, AndIntro, AndElimFst, AndElimSnd, TrueIntro, ImplIntro, ImplElim, Ident, OrIntroFst, OrIntroSnd, OrElim, FalsumElim, ForAllIntro, ForAllElim, ExistsIntro, ExistsElim, Sorry, AlphaEquivalent, ProofTreeConclusion, PropIsTrue, TypeJudgement, Step, ProofTree, over, Premisses, none, ◌and◌, rename_tree, rule_of, prop_of, conclusion_of}
use Rattle.definitions.specs.Admission.{admitted}
use Rattle.definitions.specs.CheckingRules.{Context, lookup}

-- an identifier and its proposition
pub record Hypothesis : Type 0 where
  pub identifier : Identifier Name
  pub prop : Prop Name

-- the hypotheses in scope, the latest first
abbrev pub Hypotheses : Type 0
Hypotheses = List Hypothesis

abbrev pub assume : Identifier Name → Prop Name → Hypotheses → Hypotheses
assume x a hs = record { identifier = x; prop = a } ∷ hs

-- a step of that rule that concludes that proposition
pub record Concludes (z : Step Name) (r : ProofTreeRule) (a : Prop Name) : Type 0 where
  pub rule : z.rule ≡ r
  pub conclusion : z.conclusion ≡ PropIsTrue a

-- what is asked beside the rules: when Ident concludes a proposition, when a hypothesis may be added, and which premisses
-- may stand where none is read
pub record Convention : Type 1 where
  pub Concluded : Identifier Name → Prop Name → Hypotheses → Type 0
  pub Added : Identifier Name → Hypotheses → Type 0
  pub Unread : Premisses Name → Type 0

-- the tree is a deduction of the proposition from the hypotheses by the usual introduction and elimination rules
pub data Deduction (v : Convention) : Hypotheses → ProofTree Name → Prop Name → Type 0 where
  and_intro : {hs : Hypotheses} {z : Step Name} {s t : ProofTree Name} {a b : Prop Name}
      → Concludes z AndIntro (And a b) → Deduction v hs s a → Deduction v hs t b
      → Deduction v hs (over z (s and t and none)) (And a b)
  and_elim_fst : {hs : Hypotheses} {z : Step Name} {t : ProofTree Name} {a b : Prop Name}
      → Concludes z AndElimFst a → Deduction v hs t (And a b) → Deduction v hs (over z (t and none)) a
  and_elim_snd : {hs : Hypotheses} {z : Step Name} {t : ProofTree Name} {a b : Prop Name}
      → Concludes z AndElimSnd b → Deduction v hs t (And a b) → Deduction v hs (over z (t and none)) b
  true_intro : {hs : Hypotheses} {z : Step Name} {ps : Premisses Name}
      → Concludes z TrueIntro True → v.Unread ps → Deduction v hs (over z ps) True
  -- adds the left of its conclusion over its premiss
  impl_intro : {hs : Hypotheses} {z : Step Name} {t : ProofTree Name} {a b : Prop Name}
      → Concludes z ImplIntro (Impl a b) → v.Added z.first hs → Deduction v (assume z.first a hs) t b
      → Deduction v hs (over z (t and none)) (Impl a b)
  -- the implication comes first
  impl_elim : {hs : Hypotheses} {z : Step Name} {s t : ProofTree Name} {a b : Prop Name}
      → Concludes z ImplElim b → Deduction v hs s (Impl a b) → Deduction v hs t a
      → Deduction v hs (over z (s and t and none)) b
  -- concludes the hypothesis of its name and id
  ident : {hs : Hypotheses} {z : Step Name} {ps : Premisses Name} {a : Prop Name}
      → Concludes z Ident a → v.Concluded z.first a hs → v.Unread ps → Deduction v hs (over z ps) a
  or_intro_fst : {hs : Hypotheses} {z : Step Name} {t : ProofTree Name} {a b : Prop Name}
      → Concludes z OrIntroFst (Or a b) → Deduction v hs t a → Deduction v hs (over z (t and none)) (Or a b)
  or_intro_snd : {hs : Hypotheses} {z : Step Name} {t : ProofTree Name} {a b : Prop Name}
      → Concludes z OrIntroSnd (Or a b) → Deduction v hs t b → Deduction v hs (over z (t and none)) (Or a b)
  -- the disjunction comes first; its first identifier is added over the second premiss, its second over the third
  or_elim : {hs : Hypotheses} {z : Step Name} {r s t : ProofTree Name} {a b c : Prop Name}
      → Concludes z OrElim c → Deduction v hs r (Or a b)
      → v.Added z.first hs → Deduction v (assume z.first a hs) s c
      → v.Added z.second hs → Deduction v (assume z.second b hs) t c
      → Deduction v hs (over z (r and s and t and none)) c
  falsum_elim : {hs : Hypotheses} {z : Step Name} {t : ProofTree Name} {a : Prop Name}
      → Concludes z FalsumElim a → Deduction v hs t False → Deduction v hs (over z (t and none)) a
  sorry : {hs : Hypotheses} {z : Step Name} {ps : Premisses Name} {a : Prop Name}
      → Concludes z Sorry a → v.Unread ps → Deduction v hs (over z ps) a
  -- over an equal proposition
  alpha_equivalent : {hs : Hypotheses} {z : Step Name} {t : ProofTree Name} {ps : Premisses Name} {a : Prop Name}
      → Concludes z AlphaEquivalent a → v.Unread ps → Deduction v hs t a → Deduction v hs (over z (t and ps)) a

-- no hypothesis in scope has the identifier's name
unfoldable pub Fresh : Identifier Name → Hypotheses → Type 0
Fresh x [] = Unit {0}
Fresh x (h ∷ hs) = (eq_name x.name h.identifier.name ≡ false) × Fresh x hs

-- document 01's: Ident concludes the hypothesis of its name and id, no two in scope share a name, and Sorry, Ident and
-- TrueIntro have no premisses and AlphaEquivalent just one
unfoldable pub documented : Convention
documented =
    record {
      Concluded = λ x a hs. Memᴰ (record { identifier = x; prop = a }) hs;
      Added = Fresh;
      Unread = λ ps. ps ≡ none;
    }

-- the names of the hypotheses with their propositions
unfoldable pub context : Hypotheses → Context
context hs = map (λ h. record { name = h.identifier.name; prop = h.prop }) hs

-- one that asks less, under which accuracy holds as well: the latest hypothesis of Ident's name has its proposition, whatever
-- its id; hypotheses may hide earlier ones; premisses that are not read may be any
unfoldable pub shadowing : Convention
shadowing =
    record {
      Concluded = λ x a hs. lookup x.name (context hs) ≡ Some a;
      Added = λ x hs. Unit {0};
      Unread = λ ps. Unit {0};
    }

-- rules 0 to 10, 15 and 16
unfoldable pub is_propositional : ProofTreeRule → Bool
is_propositional AndIntro = true
is_propositional AndElimFst = true
is_propositional AndElimSnd = true
is_propositional TrueIntro = true
is_propositional ImplIntro = true
is_propositional ImplElim = true
is_propositional Ident = true
is_propositional OrIntroFst = true
is_propositional OrIntroSnd = true
is_propositional OrElim = true
is_propositional FalsumElim = true
is_propositional ForAllIntro = false
is_propositional ForAllElim = false
is_propositional ExistsIntro = false
is_propositional ExistsElim = false
is_propositional Sorry = true
is_propositional AlphaEquivalent = true

unfoldable pub all_instantiated : {N : Type 0} → List (PropParameter N) → Bool
all_instantiated [] = true
all_instantiated (Uninstantiated x ∷ ps) = false
all_instantiated (Instantiated x i ∷ ps) = all_instantiated ps

-- without ∀, ∃ or uninstantiated parameters
unfoldable pub is_quantifier_free : {N : Type 0} → Prop N → Bool
is_quantifier_free True = true
is_quantifier_free False = true
is_quantifier_free (Binary c p q) = is_quantifier_free p && is_quantifier_free q
is_quantifier_free (Atom a ps) = all_instantiated ps
is_quantifier_free (Quantified q x t p) = false

unfoldable pub is_proposition : {N : Type 0} → ProofTreeConclusion N → Bool
is_proposition (PropIsTrue p) = true
is_proposition (TypeJudgement x t) = false

-- an admitted sheet whose root is a deduction, under a convention, from no hypotheses
pub record Deduced (v : Convention) (s : List ℕ) : Type 0 where
  pub root : ProofTree ℕ
  pub is_admitted : admitted s ≡ accepted root
  -- the root's proposition
  pub prop : Prop Name
  pub deduction : Deduction v [] (rename_tree (name_of s) root) prop

-- document 01's sound sheet without quantifiers
pub record Sound (s : List ℕ) : Type 0 where
  pub deduced : Deduced documented s
  pub rules : (k : ℕ) → k < steps s → is_propositional (rule_of s k) ≡ true
  pub props : (i : ℕ) → i < propositions s → is_quantifier_free (prop_of s i) ≡ true
  pub conclusions : (k : ℕ) → k < steps s → is_proposition (conclusion_of s k) ≡ true
