-- The record of a node that is a rule's term does what the rule's term asks for.
use Prim.Native.Nat.{ℕ, ◌+◌, ◌-◌, ◌<◌}
use mathlib.Core.Path.{◌≡◌, refl, sym, ap, ◌∙◌}
use mathlib.Core.Bool.{Bool, true, false, cond}
use Rattle.std.specs.Prelude.{Option, None, Some}
use mathlib.Core.List.{List, [], ◌∷◌, append-nil}
use native.Mathlib.Omega.{arith}
use lib.ListN.{length}
use lib.Dec.{eqb}
use borrow.Author.Tests.{eq-eqb, eqb-true}
use Rattle.definitions.specs.Prop.{Prop, True, False}
use Rattle.definitions.specs.Term as term
use Rattle.definitions.specs.Term.{proposition, ProofTerm, of_label, of_labels}
use Rattle.definitions.specs.Export.{premiss_term}
use Rattle.proof_term.specs.declared.nodes.Label as own
use Rattle.proof_term.specs.declared.nodes.Label.TheVariants.{Proposition, Datatype}
use Rattle.proof_term.specs.declared.nodes.Node.{Node}
use Rattle.proof_term.specs.Records.{Each, term_at}
use Rattle.proof_term.specs.Views.{parameter_meant, node_term, PartsBelow}
use Rattle.proof_term.specs.Labels.{single, term_labels}
use Rattle.proof_term.specs.Making.{Made}
use Rattle.proof_term.proofs.Making.{kept_same}
use Rattle.proof_tree.specs.declared.table.RuleTerm.{RuleTerm}
use Rattle.proof_tree.specs.declared.table.RuleTerm.TheVariants.{Pair, ProjectFst, ProjectSnd, Unit, Function, Application, Ident, OrLeft, OrRight, Case, Abort, LetIn, Sorry, Premiss}
use Rattle.proof_tree.specs.Table.{term_of, part_count}
use Rattle.proof_tree.specs.Terms.{term_over, part_terms, terms_labels, node_over, Parts, MadeTerm}
use Rattle.proof_tree.proofs.Ordering.{made_ordered}

-- numbers that stand for the same proposition, whichever that is, are the same
pub same_number : (m n : ℕ) → ((props : ℕ → Prop ℕ) → props n ≡ props m) → m ≡ n
same_number m n h = eqb-true m n (go (eqb m n) (rw (eq-eqb n n refl) at (h (λ i. cond (eqb i n) True False))))
  where
    go : (b : Bool) → ◌≡◌ {A = Prop ℕ} True (cond b True False) → b ≡ true
    go true e = refl
    go false e = absurd (grind arith)

-- a parameter's label that is a proposition of a number is that proposition's
pub proposition_label : (l : Option own.Label) (number : ℕ)
    → ((props : ℕ → Prop ℕ) → of_label single (parameter_meant props l) ≡ single (proposition (props number))) → l ≡ Some (Proposition number)
unfolding of_label
proposition_label None number e =
    let f = e (λ i. True) in absurd (grind arith)
proposition_label (Some (Proposition n)) number e =
    let same : number ≡ n = same_number number n (λ props. let f = e props in cc) in cc
proposition_label (Some (Datatype d)) number e =
    let f = e (λ i. True) in absurd (grind arith)

no_label : {A : Type 0} (l : A) → ◌≡◌ {A = List A} [] (l ∷ []) → ⊥
no_label l e = let z : ◌≡◌ {A = ℕ} 0 1 = ap length e in omega arith

-- the parts of a node are parts of the term
PartsUnder : ℕ → Option Node → Type 0
PartsUnder used None = Prim.Unit {0}
PartsUnder used (Some node) = PartsBelow used node

parts_under : (form : RuleTerm) (x y : ℕ) (l : Option own.Label) (a b c used : ℕ) → Each (λ part. part < used) (part_count form) a b c → PartsUnder used (node_over form x y l a b c)
unfolding part_count PartsUnder
parts_under Pair x y l a b c used p = p
parts_under ProjectFst x y l a b c used p = p
parts_under ProjectSnd x y l a b c used p = p
parts_under Unit x y l a b c used p = tt
parts_under Function x y l a b c used p = p
parts_under Application x y l a b c used p = p
parts_under Ident x y l a b c used p = tt
parts_under OrLeft x y l a b c used p = p
parts_under OrRight x y l a b c used p = p
parts_under Case x y l a b c used p = p
parts_under Abort x y l a b c used p = p
parts_under LetIn x y l a b c used p = p
parts_under Sorry x y l a b c used p = tt
parts_under Premiss x y l a b c used p = tt

pub parts_of : {form : RuleTerm} (x y : ℕ) (l : Option own.Label) {a b c : ℕ} {terms : List ℕ} {used : ℕ} {node : Node}
    → Parts form a b c terms used → node_over form x y l a b c ≡ Some node → PartsBelow used node
unfolding PartsUnder
parts_of {form} x y l {a} {b} {c} {used = used} parts is = rw is at (parts_under form x y l a b c used parts.earlier)

-- a node is the term over its parts
Agrees : (ℕ → Prop ℕ) → (ℕ → ProofTerm ℕ) → Option Node → ProofTerm ℕ → Type 0
Agrees props part None t = Prim.Unit {0}
Agrees props part (Some node) t = node_term props part node ≡ t

agrees : (form : RuleTerm) (x y : ℕ) (l : Option own.Label) (a b c : ℕ) (props : ℕ → Prop ℕ) (part : ℕ → ProofTerm ℕ)
    → Agrees props part (node_over form x y l a b c) (term_over form x y (parameter_meant props l) (part_terms part (part_count form) (a ∷ b ∷ c ∷ [])))
unfolding Agrees term_over term_of part_terms part_count premiss_term
agrees Pair x y l a b c props part = refl
agrees ProjectFst x y l a b c props part = refl
agrees ProjectSnd x y l a b c props part = refl
agrees Unit x y l a b c props part = refl
agrees Function x y l a b c props part = refl
agrees Application x y l a b c props part = refl
agrees Ident x y l a b c props part = refl
agrees OrLeft x y l a b c props part = refl
agrees OrRight x y l a b c props part = refl
agrees Case x y l a b c props part = refl
agrees Abort x y l a b c props part = refl
agrees LetIn x y l a b c props part = refl
agrees Sorry x y l a b c props part = refl
agrees Premiss x y l a b c props part = tt

-- a function alone has a label of its own
own_label : (form : RuleTerm) (x y : ℕ) (l : Option own.Label) (a b c number : ℕ)
    → ((props : ℕ → Prop ℕ) → term_labels (term_over form x y (parameter_meant props l) (part_terms (λ part. term.Unit) (part_count form) (a ∷ b ∷ c ∷ [])))
    ≡ single (proposition (props number)))
    → l ≡ Some (Proposition number)
unfolding term_over term_of part_terms part_count premiss_term of_labels
own_label Pair x y l a b c number e = absurd (no_label _ (e (λ i. True)))
own_label ProjectFst x y l a b c number e = absurd (no_label _ (e (λ i. True)))
own_label ProjectSnd x y l a b c number e = absurd (no_label _ (e (λ i. True)))
own_label Unit x y l a b c number e = absurd (no_label _ (e (λ i. True)))
own_label Function x y l a b c number e = proposition_label l number e
own_label Application x y l a b c number e = absurd (no_label _ (e (λ i. True)))
own_label Ident x y l a b c number e = absurd (no_label _ (e (λ i. True)))
own_label OrLeft x y l a b c number e = absurd (no_label _ (e (λ i. True)))
own_label OrRight x y l a b c number e = absurd (no_label _ (e (λ i. True)))
own_label Case x y l a b c number e = absurd (no_label _ (e (λ i. True)))
own_label Abort x y l a b c number e = absurd (no_label _ (e (λ i. True)))
own_label LetIn x y l a b c number e = absurd (no_label _ (e (λ i. True)))
own_label Sorry x y l a b c number e = absurd (no_label _ (e (λ i. True)))
own_label Premiss x y l a b c number e = absurd (no_label _ (e (λ i. True)))

-- the term is the premiss's own where there is no node
is_premiss : (form : RuleTerm) (x y : ℕ) (l : Option own.Label) (a b c : ℕ) → node_over form x y l a b c ≡ None → form ≡ Premiss
is_premiss Pair x y l a b c e = cc
is_premiss ProjectFst x y l a b c e = cc
is_premiss ProjectSnd x y l a b c e = cc
is_premiss Unit x y l a b c e = cc
is_premiss Function x y l a b c e = cc
is_premiss Application x y l a b c e = cc
is_premiss Ident x y l a b c e = cc
is_premiss OrLeft x y l a b c e = cc
is_premiss OrRight x y l a b c e = cc
is_premiss Case x y l a b c e = cc
is_premiss Abort x y l a b c e = cc
is_premiss LetIn x y l a b c e = cc
is_premiss Sorry x y l a b c e = cc
is_premiss Premiss x y l a b c e = refl

-- the record of a node is made
pub made_node : {form : RuleTerm} {x y : ℕ} {l : Option own.Label} {a b c : ℕ} {before : List ℕ} {used : ℕ} {after : List ℕ} {next : ℕ} {node : Node}
    → node_over form x y l a b c ≡ Some node → Made (λ props part. node_term props part node) before used after next
    → MadeTerm form x y l a b c before used after next
unfolding Agrees
made_node {form} {x} {y} {l} {a} {b} {c} {before} {used} {next = next} {node} is made =
    let last : next - 1 ≡ used = omega (arith, made.counted) in
    let same : (props : ℕ → Prop ℕ) (part : ℕ → ProofTerm ℕ)
    → node_term props part node ≡ term_over form x y (parameter_meant props l) (part_terms part (part_count form) (a ∷ b ∷ c ∷ [])) =
    λ props part. rw is at (agrees form x y l a b c props part) in
    record {
      holds = λ props. rw last (made.holds props ∙ same props (term_at props before));
      ordered = λ props. made_ordered made props form x y (parameter_meant props l) a b c (same props);
      kept = made.kept;
      tallied = made.tallied;
      labels = λ m number h k has.
          let here : m ≡ used = omega (arith, made.counted) in
          own_label form x y l a b c number
          (λ props. sym (ap term_labels (same props (λ part. term.Unit))) ∙ (sym (made.label props) ∙ rw here at (has props)));
      some_record = omega (arith, made.counted);
      grows = omega (arith, made.counted);
      more = omega (arith, made.counted);
      few = omega (arith, made.counted);
    }

-- the premiss's own term, which is the newest
pub premiss_own : {form : RuleTerm} {x y : ℕ} {l : Option own.Label} {a b c : ℕ} {terms : List ℕ} {used : ℕ}
    → node_over form x y l a b c ≡ None → Parts form a b c terms used → MadeTerm form x y l a b c terms used terms used
unfolding term_over term_of part_terms part_count premiss_term terms_labels
premiss_own {form} {x} {y} {l} {a} {b} {c} {used = used} none parts =
    let told = is_premiss form x y l a b c none in
    let newest : a + 1 ≡ used = parts.newest told in
    let last : used - 1 ≡ a = omega arith in
    record {
      holds = λ props. rw (last, told);
      ordered = λ props. rw told (record { own = []; made = sym (append-nil _); whole = rw last (sym (append-nil _ ∙ append-nil _)) });
      kept = kept_same _ _;
      tallied = λ t. t;
      labels = λ m number h k l. absurd (omega arith);
      some_record = omega arith;
      grows = omega arith;
      more = rw told (omega arith);
      few = omega arith;
    }
