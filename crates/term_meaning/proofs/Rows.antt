-- A record whose seven numbers are known: the term that it holds over the terms of its parts, its label and its tally.
use Prim.Native.Nat.{ℕ, ◌+◌, ◌*◌, ◌≤◌, ◌<◌}
use mathlib.Core.Path.{◌≡◌, refl, sym, ap, ◌∙◌}
use mathlib.Core.List.{List, [], ◌∷◌, ◌++◌, append_assoc}
use native.Mathlib.Omega.{arith}
use lib.ListN.{length, get_or, drop, length-drop}
use lib.Seq.{get_or-drop}
use Rattle.definitions.specs.Prop.{Prop}
use Rattle.definitions.specs.Term.{Unit}
use Rattle.prefix_code.proofs.Positions.{after}
use Rattle.proof_term.specs.Records.{record_size, field_at, leaf, forms, record_term, record_term_at, part_count, Each, term_at, part_at}
use Rattle.proof_term.specs.Labels.{of_own_label, single, record_label}
use Rattle.proof_term.specs.Tally.{PartsEarlier, tally_at}
use Rattle.proof_term.proofs.Records.{part_count_lem, form_same, term_at_is, part_below}

module _ (records : List ℕ) where
  -- these numbers stand from record `used` on
  pub record Stands (used : ℕ) (numbers : List ℕ) : Type 0 where
    pub rest : List ℕ
    pub is : drop (record_size * used) records ≡ numbers ++ rest

  module _ {used : ℕ} (a b : List ℕ) (s : Stands used (a ++ b)) where
    pub front : Stands used a
    front = record { rest = b ++ s.rest; is = s.is ∙ append_assoc a b s.rest }

    -- behind so many records
    pub back : (count : ℕ) → length a ≡ record_size * count → Stands (used + count) b
    unfolding front
    back count size =
        let behind : record_size * used + length a ≡ record_size * (used + count) = omega arith in
        record { rest = s.rest; is = rw behind at (after records (record_size * used) a (b ++ s.rest) front.is) }

  -- record n has these numbers, its parts are earlier records, and it holds the term that they make
  pub record Node (n kind a b c d e tally : ℕ) : Type 0 where
    pub kind_is : field_at records n 0 ≡ kind
    pub label_kind_lem : field_at records n 3 ≡ c
    pub label_number_lem : field_at records n 4 ≡ d
    pub tally_is : tally_at records n ≡ tally
    pub held : record_size * (n + 1) ≤ length records
    pub parts : PartsEarlier records n
    pub term : (props : ℕ → Prop ℕ) → term_at props records n ≡ record_term props (term_at props records) kind a b c d e
    pub label : (props : ℕ → Prop ℕ) → record_label props records n ≡ of_own_label single props kind c d

  module _ {n kind a b c d e tally : ℕ} (s : Stands n (kind ∷ a ∷ b ∷ c ∷ d ∷ e ∷ tally ∷ [])) where
    field : (i : ℕ) → field_at records n i ≡ get_or ((kind ∷ a ∷ b ∷ c ∷ d ∷ e ∷ tally ∷ []) ++ s.rest) i 0
    unfolding field_at
    field i = sym (get_or-drop (record_size * n) records i 0) ∙ ap (λ l. get_or l i 0) s.is

    pub node : Each (λ part. part < n) (part_count kind) a b c → Node n kind a b c d e tally
    unfolding tally_at record_term_at
    node h = record {
      kind_is = field 0;
      label_kind_lem = field 3;
      label_number_lem = field 4;
      tally_is = field 6;
      held = omega (arith, length-drop (record_size * n) records, ap length s.is);
      parts = rw (field 0, field 1, field 2, field 3) h;
      term = λ props.
          term_at_is props records n
          ∙ (cc (field 0, field 1, field 2, field 3, field 4, field 5)
          ∙ form_same n (part_at props records n) (term_at props records) (part_below props records n) (get_or (forms props a b c d e) kind (leaf Unit)) a b c
          (rw (part_count_lem props kind a b c d e) at h));
      label = λ props. rw (field 0, field 3, field 4) refl;
    }
