-- The order of the records: each maker puts a record's label behind those of its parts, and what stands in order is joined in order.
use Prim.Native.Nat.{ℕ, ◌-◌}
use mathlib.Core.Path.{◌≡◌, refl, sym, ◌∙◌}
use Rattle.std.specs.Prelude.{Option}
use mathlib.Core.List.{List, [], ◌∷◌, ◌++◌, append-nil, append_assoc}
use native.Mathlib.Omega.{arith}
use Rattle.definitions.specs.Prop.{Prop}
use Rattle.definitions.specs.Term as term
use Rattle.definitions.specs.Term.{Label, proposition, ProofTerm, TypeAscription, of_labels}
use Rattle.definitions.specs.Export.{premiss_term}
use Rattle.proof_term.specs.Records.{term_at}
use Rattle.proof_term.specs.Labels.{single, term_labels, record_labels}
use Rattle.proof_term.specs.Making.{Made}
use Rattle.proof_term.proofs.Labels.{records_kept, records_more}
use Rattle.proof_tree.specs.declared.table.RuleTerm.{RuleTerm}
use Rattle.proof_tree.specs.declared.table.RuleTerm.TheVariants.{Pair, ProjectFst, ProjectSnd, Unit, Function, Application, Ident, OrLeft, OrRight, Case, Abort, LetIn, Sorry, Premiss}
use Rattle.proof_tree.specs.Table.{term_of, part_count}
use Rattle.proof_tree.specs.Terms.{term_over, part_terms, terms_labels, Ordered}

-- the labels of a rule's term are those of its parts, and then those that it has over parts without labels
over_labels : (form : RuleTerm) (x y : ℕ) (l : Option (Label ℕ)) (f : ℕ → ProofTerm ℕ) (a b c : ℕ)
    → term_labels (term_over form x y l (part_terms f (part_count form) (a ∷ b ∷ c ∷ [])))
    ≡ terms_labels (part_terms f (part_count form) (a ∷ b ∷ c ∷ []))
    ++ term_labels (term_over form x y l (part_terms (λ part. term.Unit) (part_count form) (a ∷ b ∷ c ∷ [])))
unfolding term_over term_of part_terms part_count premiss_term terms_labels of_labels
over_labels Pair x y l f a b c = simp append-nil
over_labels ProjectFst x y l f a b c = simp append-nil
over_labels ProjectSnd x y l f a b c = simp append-nil
over_labels Unit x y l f a b c = simp append-nil
over_labels Function x y l f a b c = simp append-nil
over_labels Application x y l f a b c = simp append-nil
over_labels Ident x y l f a b c = simp append-nil
over_labels OrLeft x y l f a b c = simp append-nil
over_labels OrRight x y l f a b c = simp append-nil
over_labels Case x y l f a b c = simp append-nil
over_labels Abort x y l f a b c = simp append-nil
over_labels LetIn x y l f a b c = simp append-nil
over_labels Sorry x y l f a b c = simp append-nil
over_labels Premiss x y l f a b c = simp append-nil

-- one term more
labels_more : (ts : List (ProofTerm ℕ)) (t : ProofTerm ℕ) → terms_labels (ts ++ (t ∷ [])) ≡ terms_labels ts ++ term_labels t
unfolding terms_labels
labels_more [] t = append-nil (term_labels t)
labels_more (s ∷ ts) t = rw (labels_more ts t) (sym (append_assoc (term_labels s) (terms_labels ts) (term_labels t)))

-- A record that is made.
module _ {t : (ℕ → Prop ℕ) → (ℕ → ProofTerm ℕ) → ProofTerm ℕ} {before : List ℕ} {used : ℕ} {after : List ℕ} {next : ℕ} (made : Made t before used after next) (props : ℕ → Prop ℕ) where
  -- its label comes behind those of the records before it
  labels_made : record_labels props after next ≡ record_labels props before used ++ term_labels (t props (λ part. term.Unit))
  labels_made =
      rw made.counted
      (records_more single props after used
      ∙ cc (records_kept single props after before used made.kept.numbers, made.label props))

  -- its term is a rule's, over its parts
  pub made_ordered : (form : RuleTerm) (x y : ℕ) (l : Option (Label ℕ)) (a b c : ℕ)
      → ((part : ℕ → ProofTerm ℕ) → t props part ≡ term_over form x y l (part_terms part (part_count form) (a ∷ b ∷ c ∷ [])))
      → Ordered props before used (part_terms (term_at props before) (part_count form) (a ∷ b ∷ c ∷ [])) after next
  made_ordered form x y l a b c agrees =
      let last : next - 1 ≡ used = omega (arith, made.counted) in
      record {
        own = term_labels (t props (λ part. term.Unit));
        made = labels_made;
        whole = rw (last, made.holds props, agrees (term_at props before), agrees (λ part. term.Unit))
            (over_labels form x y l (term_at props before) a b c);
      }

-- an ascription of the newest term comes behind it
pub ascribed_ordered : {props : ℕ → Prop ℕ} {before : List ℕ} {used : ℕ} {ts : List (ProofTerm ℕ)} {mid : List ℕ} {next at : ℕ} {after : List ℕ} {last : ℕ}
    → Ordered props before used ts mid next
    → Made (λ props part. TypeAscription (part (next - 1)) (proposition (props at))) mid next after last
    → Ordered props before used ts after last
unfolding of_labels
ascribed_ordered {props} {before} {used} {ts} {next = next} {at} {last = last} o more =
    let end : last - 1 ≡ next = omega (arith, more.counted) in
    let own = single (proposition (props at)) in
    record {
      own = o.own ++ own;
      made = labels_made more props ∙ rw o.made (append_assoc (record_labels props before used) o.own own);
      whole = rw (end, more.holds props, o.whole) (append_assoc (terms_labels ts) o.own own);
    }

-- Terms that stand in order behind `used`, and what is made behind them.
module _ {props : ℕ → Prop ℕ} (before : List ℕ) (used : ℕ) (ts : List (ProofTerm ℕ)) {mid : List ℕ} {next : ℕ} {after : List ℕ} {last : ℕ} where
  -- one term more
  pub premiss_ordered : record_labels props mid next ≡ record_labels props before used ++ terms_labels ts → Ordered props mid next [] after last
      → record_labels props after last ≡ record_labels props before used ++ terms_labels (ts ++ (term_at props after (last - 1) ∷ []))
  unfolding terms_labels
  premiss_ordered read o =
      o.made
      ∙ rw (read, labels_more ts (term_at props after (last - 1)), o.whole) (append_assoc (record_labels props before used) (terms_labels ts) o.own)

  -- the term over them
  pub whole_ordered : record_labels props mid next ≡ record_labels props before used ++ terms_labels ts → Ordered props mid next ts after last
      → Ordered props before used [] after last
  unfolding terms_labels
  whole_ordered read o =
      record {
        own = term_labels (term_at props after (last - 1));
        made = o.made ∙ rw (read, o.whole) (append_assoc (record_labels props before used) (terms_labels ts) o.own);
        whole = refl;
      }
