-- Sound steps with quantifiers. Document 01, "Sound steps and the checking rules", its first paragraph, and document 02, ticket 12.
-- Propositions are nameless and names are bytes, so that equality up to alpha is plain equality.
use Rattle.std.specs.Prelude.{ℕ, ◌<◌, ◌≡◌, false, Some}
use mathlib.Core.List.{List, [], ◌∷◌, map, Memᴰ}
use Rattle.definitions.specs.Outcome.{accepted}
use Rattle.definitions.specs.Name.{Name, eq_name}
use Rattle.definitions.specs.Prop.{Prop}
use Rattle.definitions.specs.AlphaEquality.{Object, constant, Nameless, True, False, nameless}
use Rattle.definitions.specs.Sheet.{name_of, propositions}
use Rattle.definitions.specs.Tree.{Identifier, ProofTreeRule, AndIntro, AndElimFst, AndElimSnd, TrueIntro, ImplIntro, ImplElim, Ident, OrIntroFst, OrIntroSnd, OrElim, FalsumElim, ForAllIntro, ForAllElim, ExistsIntro, ExistsElim, Sorry, AlphaEquivalent, PropIsTrue, TypeJudgement, Step, ProofTree, over, Premisses, none, ◌and◌, rename_tree}
use Rattle.definitions.specs.Admission.{admitted}
use Rattle.definitions.specs.CheckAnswers.{named_prop}
use Rattle.quantifier_laws.specs.Instantiation.{And, Or, Impl, ForAll, Exists, instantiate, stands, among, holds_unbound}
use Rattle.quantifier_laws.specs.Rules.{Fact, proves, object_of, Context, lookup, objects}

-- a hypothesis or an object: an identifier and what is known of it
pub record Assumption : Type 0 where
  pub identifier : Identifier Name
  pub fact : Fact

-- the hypotheses and objects in scope, the latest first
abbrev pub Scope : Type 0
Scope = List Assumption

abbrev pub assume : Identifier Name → Fact → Scope → Scope
assume x f hs = record { identifier = x; fact = f } ∷ hs

-- the object of an identifier
abbrev pub identified : Identifier Name → Object
identified x = constant x.name x.unique_id

-- a step of that rule that concludes a proposition of that nameless form
pub record Concludes (z : Step Name) (r : ProofTreeRule) (a : Nameless) : Type 0 where
  pub rule : z.rule ≡ r
  pub prop : Prop Name
  pub conclusion : z.conclusion ≡ PropIsTrue prop
  pub form : nameless [] prop ≡ a

-- the name stands in no hypothesis in scope
unfoldable pub AbsentFact : Name → Fact → Type 0
AbsentFact x (proves a) = stands x a ≡ false
AbsentFact x (object_of d) = Unit {0}

unfoldable pub Absent : Name → Scope → Type 0
Absent x [] = Unit {0}
Absent x (h ∷ hs) = AbsentFact x h.fact × Absent x hs

-- what is asked beside the rules: when Ident concludes a fact, when a hypothesis or object may be added, and which premisses
-- may stand where none is read
pub record Convention : Type 1 where
  pub Concluded : Identifier Name → Fact → Scope → Type 0
  pub Added : Identifier Name → Scope → Type 0
  pub Unread : Premisses Name → Type 0

-- the tree concludes that the object is of the datatype: only Ident does, of its own identifier
pub data Judgement (v : Convention) : Scope → ProofTree Name → Identifier Name → Name → Type 0 where
  ident : {hs : Scope} {z : Step Name} {ps : Premisses Name} {x : Identifier Name} {d : Name}
      → z.rule ≡ Ident → z.first ≡ x → z.conclusion ≡ TypeJudgement x d → v.Concluded x (object_of d) hs → v.Unread ps
      → Judgement v hs (over z ps) x d

-- the tree is a deduction of the proposition from the scope by the usual introduction and elimination rules
pub data Deduction (v : Convention) : Scope → ProofTree Name → Nameless → Type 0 where
  and_intro : {hs : Scope} {z : Step Name} {s t : ProofTree Name} {a b : Nameless}
      → Concludes z AndIntro (And a b) → Deduction v hs s a → Deduction v hs t b
      → Deduction v hs (over z (s and t and none)) (And a b)
  and_elim_fst : {hs : Scope} {z : Step Name} {t : ProofTree Name} {a b : Nameless}
      → Concludes z AndElimFst a → Deduction v hs t (And a b) → Deduction v hs (over z (t and none)) a
  and_elim_snd : {hs : Scope} {z : Step Name} {t : ProofTree Name} {a b : Nameless}
      → Concludes z AndElimSnd b → Deduction v hs t (And a b) → Deduction v hs (over z (t and none)) b
  true_intro : {hs : Scope} {z : Step Name} {ps : Premisses Name}
      → Concludes z TrueIntro True → v.Unread ps → Deduction v hs (over z ps) True
  -- adds the left of its conclusion over its premiss
  impl_intro : {hs : Scope} {z : Step Name} {t : ProofTree Name} {a b : Nameless}
      → Concludes z ImplIntro (Impl a b) → v.Added z.first hs → Deduction v (assume z.first (proves a) hs) t b
      → Deduction v hs (over z (t and none)) (Impl a b)
  -- the implication comes first
  impl_elim : {hs : Scope} {z : Step Name} {s t : ProofTree Name} {a b : Nameless}
      → Concludes z ImplElim b → Deduction v hs s (Impl a b) → Deduction v hs t a
      → Deduction v hs (over z (s and t and none)) b
  -- concludes the hypothesis of its name and id
  ident : {hs : Scope} {z : Step Name} {ps : Premisses Name} {a : Nameless}
      → Concludes z Ident a → v.Concluded z.first (proves a) hs → v.Unread ps → Deduction v hs (over z ps) a
  or_intro_fst : {hs : Scope} {z : Step Name} {t : ProofTree Name} {a b : Nameless}
      → Concludes z OrIntroFst (Or a b) → Deduction v hs t a → Deduction v hs (over z (t and none)) (Or a b)
  or_intro_snd : {hs : Scope} {z : Step Name} {t : ProofTree Name} {a b : Nameless}
      → Concludes z OrIntroSnd (Or a b) → Deduction v hs t b → Deduction v hs (over z (t and none)) (Or a b)
  -- the disjunction comes first; its first identifier is added over the second premiss, its second over the third
  or_elim : {hs : Scope} {z : Step Name} {r s t : ProofTree Name} {a b c : Nameless}
      → Concludes z OrElim c → Deduction v hs r (Or a b)
      → v.Added z.first hs → Deduction v (assume z.first (proves a) hs) s c
      → v.Added z.second hs → Deduction v (assume z.second (proves b) hs) t c
      → Deduction v hs (over z (r and s and t and none)) c
  falsum_elim : {hs : Scope} {z : Step Name} {t : ProofTree Name} {a : Nameless}
      → Concludes z FalsumElim a → Deduction v hs t False → Deduction v hs (over z (t and none)) a
  sorry : {hs : Scope} {z : Step Name} {ps : Premisses Name} {a : Nameless}
      → Concludes z Sorry a → v.Unread ps → Deduction v hs (over z ps) a
  -- over an alpha-equal proposition
  alpha_equivalent : {hs : Scope} {z : Step Name} {t : ProofTree Name} {ps : Premisses Name} {a : Nameless}
      → Concludes z AlphaEquivalent a → v.Unread ps → Deduction v hs t a → Deduction v hs (over z (t and ps)) a
  -- its identifier is a new object over its premiss
  for_all_intro : {hs : Scope} {z : Step Name} {t : ProofTree Name} {d : Name} {c : Nameless}
      → Concludes z ForAllIntro (ForAll d c)
      → v.Added z.first hs → Absent z.first.name hs → stands z.first.name c ≡ false
      → Deduction v (assume z.first (object_of d) hs) t (instantiate c (identified z.first))
      → Deduction v hs (over z (t and none)) (ForAll d c)
  -- the datatype judgement comes second
  for_all_elim : {hs : Scope} {z : Step Name} {s t : ProofTree Name} {x : Identifier Name} {d : Name} {c b : Nameless}
      → Concludes z ForAllElim b → instantiate c (identified x) ≡ b
      → Deduction v hs s (ForAll d c) → Judgement v hs t x d
      → Deduction v hs (over z (s and t and none)) b
  -- the datatype judgement comes first
  exists_intro : {hs : Scope} {z : Step Name} {s t : ProofTree Name} {x : Identifier Name} {d : Name} {c : Nameless}
      → Concludes z ExistsIntro (Exists d c)
      → Judgement v hs s x d → Deduction v hs t (instantiate c (identified x))
      → Deduction v hs (over z (s and t and none)) (Exists d c)
  -- its first identifier is a new object and its second a hypothesis of it, both over the second premiss
  exists_elim : {hs : Scope} {z : Step Name} {s t : ProofTree Name} {d : Name} {c b : Nameless}
      → Concludes z ExistsElim b → Deduction v hs s (Exists d c)
      → v.Added z.first hs → Absent z.first.name hs → stands z.first.name c ≡ false → stands z.first.name b ≡ false
      → v.Added z.second (assume z.first (object_of d) hs)
      → Deduction v (assume z.second (proves (instantiate c (identified z.first))) (assume z.first (object_of d) hs)) t b
      → Deduction v hs (over z (s and t and none)) b

-- nothing in scope has the identifier's name
unfoldable pub Fresh : Identifier Name → Scope → Type 0
Fresh x [] = Unit {0}
Fresh x (h ∷ hs) = (eq_name x.name h.identifier.name ≡ false) × Fresh x hs

-- the ticket's: Ident concludes the hypothesis or the object of its name and id, no two in scope share a name, and Sorry,
-- Ident and TrueIntro have no premisses and AlphaEquivalent just one
unfoldable pub documented : Convention
documented =
    record {
      Concluded = λ x f hs. Memᴰ (record { identifier = x; fact = f }) hs;
      Added = Fresh;
      Unread = λ ps. ps ≡ none;
    }

-- what is known of a name, in which the objects of these names go by their names
unfoldable pub among_fact : List Name → Fact → Fact
among_fact xs (proves a) = proves (among xs a)
among_fact xs (object_of d) = object_of d

unfoldable pub entries : Scope → Context
entries hs = map (λ h. record { name = h.identifier.name; fact = h.fact }) hs

-- the names of the objects in scope
abbrev pub objects_of : Scope → List Name
objects_of hs = objects (entries hs)

unfoldable pub among_entries : List Name → Context → Context
among_entries xs g = map (λ e. record { name = e.name; fact = among_fact xs e.fact }) g

-- the names in scope with what is known of them; the objects in scope go by their names
unfoldable pub context : Scope → Context
context hs = among_entries (objects_of hs) (entries hs)

-- the least that accuracy needs: the latest entry of Ident's name is the hypothesis or the object, whatever its id; entries
-- may hide earlier ones; premisses that are not read may be any
unfoldable pub shadowing : Convention
shadowing =
    record {
      Concluded = λ x f hs. lookup x.name (context hs) ≡ Some (among_fact (objects_of hs) f);
      Added = λ x hs. Unit {0};
      Unread = λ ps. Unit {0};
    }

-- an admitted sheet whose root is a deduction, under a convention, from no hypotheses
pub record Deduced (v : Convention) (s : List ℕ) : Type 0 where
  pub root : ProofTree ℕ
  pub is_admitted : admitted s ≡ accepted root
  -- the root's proposition
  pub prop : Prop Name
  pub deduction : Deduction v [] (rename_tree (name_of s) root) (nameless [] prop)

-- ticket 12's sound sheet. The deduction asks, all by name, that no two objects or hypotheses in one scope share a name and that
-- a new object stands in no hypothesis in scope, not in its step's conclusion, and not in what ExistsElim's first premiss
-- concludes. That no quantifier is named like an object in scope is not asked: the rules need no such premise.
pub record Sound (s : List ℕ) : Type 0 where
  pub deduced : Deduced documented s
  -- every uninstantiated parameter is bound
  pub bound : (i : ℕ) → i < propositions s → holds_unbound (nameless [] (named_prop s i)) ≡ false
