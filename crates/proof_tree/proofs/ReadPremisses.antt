-- Reading a step's premisses one after the other: what is left of them decides what they all come to.
use Prim.Native.Nat.{ℕ, zero, suc, ◌+◌, ◌*◌, ◌-◌, ◌≤◌, ◌<◌}
use mathlib.Core.Path.{◌≡◌, refl, sym, ap, ◌∙◌}
use mathlib.Core.Logic.{by_cases}
use mathlib.Core.List.{List, [], ◌∷◌, ◌++◌, map, append_assoc, append-nil, map-append}
use native.Mathlib.Omega.{arith}
use native.Mathlib.Decide.{dec_lt}
use native.Mathlib.Numerals.{add-one}
use lib.ListN.{length, get_or, take, drop, set, length-set, length-map, drop_of_length-le, get_or-map}
use lib.Seq.{take-suc-set, drop-cons, get_or-set_same, get_or-set_other}
use borrow.Author.Count.{below_more}
use Rattle.definitions.specs.Outcome.{Outcome, accepted, refused, ◌>>=◌}
use Rattle.definitions.specs.declared.Refusal.{Refusal}
use Rattle.definitions.specs.Prop.{Prop}
use Rattle.definitions.specs.Term.{ProofTerm}
use Rattle.definitions.specs.Tree.{ProofTree, Premisses, none, ◌and◌, rule_in, tree_in}
use Rattle.definitions.specs.Export.{Place, places, export, export_all}
use Rattle.steps.specs.Size.{size, sizes}
use Rattle.proof_term.specs.Records.{record_size, Each, term_at}
use Rattle.proof_term.specs.Making.{Room}
use Rattle.proof_term.specs.Labels.{single, record_labels}
use Rattle.proof_term.proofs.Labels.{record_kept}
use Rattle.proof_term.proofs.Making.{kept_same, kept_then}
use Rattle.proof_tree.specs.declared.table.RuleTerm.{RuleTerm}
use Rattle.proof_tree.specs.declared.table.RuleTerm.TheVariants.{Premiss}
use Rattle.proof_tree.specs.declared.table.Row.{Row}
use Rattle.prefix_code.specs.PropAt.{prop_at}
use Rattle.std.specs.Prelude.{Option, Some, None, unwrap_or}
use Rattle.proof_tree.specs.declared.table.ReasoningMode.{ReasoningMode}
use Rattle.proof_tree.specs.Table.{part_count, mode_of, premiss_mode, TableRow}
use Rattle.proof_tree.specs.Premisses.{premisses_from, PremissStep}
use Rattle.proof_tree.specs.Terms.{first_three, part_terms, terms_labels, Parts}
use Rattle.proof_tree.specs.Exporting.{Grown, ExportedTerm}
use Rattle.proof_tree.proofs.Ordering.{premiss_ordered}

-- a premiss that has no mode of its own has its step's
pub mode_below : (own : ReasoningMode) (m : Option ReasoningMode) → mode_of (unwrap_or m own) ≡ premiss_mode (mode_of own) m
unfolding mode_of premiss_mode
mode_below own None = refl
mode_below own (Some m) = refl

-- what one more premiss adds to those that were read
then_more : {A : Type 0} (o : Outcome (List A)) (a : A) (s : List A)
    → ((o >>= λ t. accepted (a ∷ t)) >>= λ t. accepted (s ++ t)) ≡ (o >>= λ t. accepted ((s ++ (a ∷ [])) ++ t))
unfolding ◌>>=◌
then_more (refused r) a s = refl
then_more (accepted t) a s = ap accepted (sym (append_assoc s (a ∷ []) t))

then_none : {A : Type 0} (o : Outcome (List A)) → o ≡ (o >>= λ t. accepted ([] ++ t))
unfolding ◌>>=◌
then_none (refused r) = refl
then_none (accepted t) = refl

no_modes : {N : Type 0} (ps : Premisses N) → export_all ps [] ≡ accepted []
unfolding export_all
no_modes none = refl
no_modes (t and ps) = refl

same_terms : (f g : ℕ → ProofTerm ℕ) (i : ℕ) (parts : List ℕ) → ((j : ℕ) → j < i → f (get_or parts j 0) ≡ g (get_or parts j 0)) → map f (take i parts) ≡ map g (take i parts)
same_terms f g zero parts h = refl
same_terms f g (suc i) [] h = refl
same_terms f g (suc i) (part ∷ parts) h = cc (h 0 (omega arith), same_terms f g i parts (λ j l. h (suc j) (omega arith)))

pub three_parts : (parts : List ℕ) → length parts ≡ 3 → parts ≡ first_three parts
three_parts [] e = absurd (omega arith)
three_parts (a ∷ []) e = absurd (omega arith)
three_parts (a ∷ b ∷ []) e = absurd (omega arith)
three_parts (a ∷ b ∷ c ∷ []) e = refl
three_parts (a ∷ b ∷ c ∷ d ∷ parts) e = absurd (omega arith)

each_part : (P : ℕ → Type 0) (parts : List ℕ) (n : ℕ) → n ≤ 3 → ((j : ℕ) → j < n → P (get_or parts j 0)) → Each P n (get_or parts 0 0) (get_or parts 1 0) (get_or parts 2 0)
each_part P parts zero h all = tt
each_part P parts (suc zero) h all = all 0 (omega arith)
each_part P parts (suc (suc zero)) h all = (all 0 (omega arith), all 1 (omega arith))
each_part P parts (suc (suc (suc n))) h all = (all 0 (omega arith), all 1 (omega arith), all 2 (omega arith))

own_parts : {term : RuleTerm} → term ≡ Premiss → part_count term ≡ 1
unfolding part_count
own_parts e = rw e

-- the records that were made before and after
module _ {pairs code records : List ℕ} {k : ℕ} where
  grown_none : (terms : List ℕ) (used : ℕ) → Grown pairs code records k terms used terms used
  grown_none terms used = record { kept = kept_same used terms; tallied = λ t. t; labels = λ m offset h i l. absurd (omega arith) }

  pub grown_then : {used next last : ℕ} {before mid after : List ℕ} → used ≤ next
      → Grown pairs code records k before used mid next → Grown pairs code records k mid next after last → Grown pairs code records k before used after last
  grown_then {used} {next} {last} {before} {mid} {after} h p q =
      record {
        kept = kept_then h p.kept q.kept;
        tallied = λ t. q.tallied (p.tallied t);
        labels = λ m offset low high has. by_cases (dec_lt m next)
            (λ l. p.labels m offset low l (λ props. sym (record_kept single props after mid next q.kept.numbers m l) ∙ has props))
            (λ l. q.labels m offset (omega arith) high has);
      }

  grown_later : {q used next : ℕ} {before after : List ℕ} → q ≤ k → Grown pairs code records q before used after next → Grown pairs code records k before used after next
  grown_later h g =
      record {
        kept = g.kept;
        tallied = g.tallied;
        labels = λ m offset low high has.
            let l = g.labels m offset low high has in
            record { step = l.step; visited = omega (arith, l.visited); number = l.number; concludes = l.concludes; stands = l.stands };
      }

-- the premisses from position i on are still to be read: what those before them gave is held by the parts
pub record PremissesRead (names : ℕ) (pairs code records : List ℕ) (k : ℕ) (mode : Place) (row : Row) (before : List ℕ) (used i : ℕ) (parts terms : List ℕ) (next : ℕ) : Type 0 where
  pub position : i ≤ length row.modes.now
  pub three : length parts ≡ 3
  pub left : export_all (premisses_from names pairs code records k 0) (places (rule_in records k) mode)
      ≡ (export_all (premisses_from names pairs code records k i) (drop i (places (rule_in records k) mode)) >>= λ ts. accepted (part_terms (term_at (prop_at names code) terms) i parts ++ ts))
  pub ordered : (props : ℕ → Prop ℕ)
      → record_labels props terms next ≡ record_labels props before used ++ terms_labels (part_terms (term_at props terms) i parts)
  pub earlier : (j : ℕ) → j < i → get_or parts j 0 < next
  pub newest : (j : ℕ) → j + 1 ≡ i → get_or parts j 0 + 1 ≡ next
  pub grown : Grown pairs code records k before used terms next
  pub low : used + i ≤ next
  pub high : next + 2 * sizes (premisses_from names pairs code records k i) ≤ used + 2 * sizes (premisses_from names pairs code records k 0)
  pub same : length terms ≡ length before

pub read_none : (names : ℕ) (pairs code records : List ℕ) (k : ℕ) (mode : Place) (row : Row) (terms : List ℕ) (used : ℕ)
    → PremissesRead names pairs code records k mode row terms used 0 (0 ∷ 0 ∷ 0 ∷ []) terms used
unfolding part_terms terms_labels
read_none names pairs code records k mode row terms used =
    record {
      position = omega arith;
      three = refl;
      left = then_none _;
      ordered = λ props. sym (append-nil _);
      earlier = λ j h. absurd (omega arith);
      newest = λ j h. absurd (omega arith);
      grown = grown_none terms used;
      low = omega arith;
      high = omega arith;
      same = refl;
    }

module _ {names : ℕ} {pairs code records : List ℕ} {k : ℕ} {mode : Place} {row : Row} {before : List ℕ} {used i : ℕ} {parts terms : List ℕ} {next : ℕ} (is_row : TableRow (rule_in records k) row) (read : PremissesRead names pairs code records k mode row before used i parts terms next) where
  -- The premiss of position i, which step q finishes, in its mode m.
  module _ {q : ℕ} {m : Place} (h : i < length row.modes.now) (p : PremissStep records k i q) (in-mode : m ≡ premiss_mode mode (get_or row.modes.now i None)) where
    next_mode : drop i (places (rule_in records k) mode) ≡ m ∷ drop (i + 1) (places (rule_in records k) mode)
    next_mode =
        let l = map (premiss_mode mode) row.modes.now in
        let long : i < length l = rw (length-map row.modes.now (premiss_mode mode)) h in
        let here : get_or l i (premiss_mode mode None) ≡ m = get_or-map (premiss_mode mode) row.modes.now i None ∙ sym in-mode in
        rw (← (is_row.modes_are mode), add-one) (drop-cons l i (premiss_mode mode None) long ∙ ap (λ n. n ∷ drop (suc i) l) here)

    tree : ProofTree ℕ
    tree = tree_in names pairs code records q

    -- what is left, with its outcome taken out
    next_left : (ts : List (ProofTerm ℕ)) →
        (export_all (premisses_from names pairs code records k i) (drop i (places (rule_in records k) mode)) >>= λ us. accepted (ts ++ us))
        ≡ ((export tree m >>= λ u. export_all (premisses_from names pairs code records k (i + 1)) (drop (i + 1) (places (rule_in records k) mode)) >>= λ us. accepted (u ∷ us)) >>= λ us. accepted (ts ++ us))
    unfolding export_all tree
    next_left ts = rw (p.tree names pairs code, next_mode)

    -- a refused premiss is the last that is visited
    pub read_refused : {x : Refusal} → export (tree_in names pairs code records q) m ≡ refused x
        → export_all (premisses_from names pairs code records k 0) (places (rule_in records k) mode) ≡ refused x
    unfolding ◌>>=◌ tree
    read_refused e = read.left ∙ (next_left (part_terms (term_at (prop_at names code) terms) i parts) ∙ rw e)

    sizes_next : sizes (premisses_from names pairs code records k i) ≡ size tree + sizes (premisses_from names pairs code records k (i + 1))
    unfolding sizes tree
    sizes_next = ap sizes (p.tree names pairs code)

    -- there is room for its records
    pub room_next : next + 2 * size (tree_in names pairs code records q) ≤ used + 2 * sizes (premisses_from names pairs code records k 0)
    unfolding tree
    room_next = omega (arith, sizes_next, read.high)

    -- Its term, whose record is the newest.
    module _ {terms' : List ℕ} {last : ℕ} (a : ExportedTerm names pairs code records q (export (tree_in names pairs code records q) m) terms next (λ props. []) (next + 1) (next + 2 * size (tree_in names pairs code records q)) terms' last) where
      held : (props : ℕ → Prop ℕ) → part_terms (term_at props terms') (i + 1) (set parts i (last - 1))
          ≡ part_terms (term_at props terms) i parts ++ (term_at props terms' (last - 1) ∷ [])
      unfolding part_terms
      held props =
          let f = term_at props terms' in
          let g = term_at props terms in
          let kept = same_terms f g i parts (λ j l. a.grown.kept.terms props (get_or parts j 0) (read.earlier j l)) in
          let within : i < length parts = omega (arith, read.three, is_row.few) in
          rw (add-one, take-suc-set parts i (last - 1) within, map-append f (take i parts) ((last - 1) ∷ []), kept)

      pub read_more : q ≤ k → length terms' ≡ length terms → PremissesRead names pairs code records k mode row before used (i + 1) (set parts i (last - 1)) terms' last
      unfolding ◌>>=◌ tree
      read_more earlier same =
          let within : i < length parts = omega (arith, read.three, is_row.few) in
          record {
            position = omega arith;
            three = rw length-set read.three;
            left = read.left ∙ (next_left (part_terms (term_at (prop_at names code) terms) i parts) ∙ rw (a.holds, held (prop_at names code)) (then_more (export_all (premisses_from names pairs code records k (i + 1)) (drop (i + 1) (places (rule_in records k) mode))) (term_at (prop_at names code) terms' (last - 1)) (part_terms (term_at (prop_at names code) terms) i parts)));
            ordered = λ props. rw (held props) (premiss_ordered before used (part_terms (term_at props terms) i parts) (read.ordered props) (a.ordered props));
            earlier = below_more (λ j. get_or (set parts i (last - 1)) j 0 < last) i
                (λ j l. rw (get_or-set_other parts i j (last - 1) 0 (omega arith)) (omega (arith, read.earlier j l, a.low)))
                (rw (get_or-set_same parts i (last - 1) 0 within) (omega (arith, a.low)));
            newest = λ j e.
                let is : j ≡ i = omega arith in
                rw (is, get_or-set_same parts i (last - 1) 0 within) (omega (arith, a.low));
            grown = grown_then (omega (arith, read.low)) read.grown (grown_later earlier a.grown);
            low = omega (arith, read.low, a.low);
            high = omega (arith, sizes_next, read.high, a.high);
            same = same ∙ read.same;
          }

  -- all that are read have been
  pub read_all : i ≡ length row.modes.now → export_all (premisses_from names pairs code records k 0) (places (rule_in records k) mode) ≡ accepted (part_terms (term_at (prop_at names code) terms) (length row.modes.now) (first_three parts))
  unfolding ◌>>=◌
  read_all e =
      let l = map (premiss_mode mode) row.modes.now in
      let long : length l ≤ i = rw (length-map row.modes.now (premiss_mode mode)) (omega arith) in
      let over : drop i (places (rule_in records k) mode) ≡ [] = rw (← (is_row.modes_are mode)) (drop_of_length-le l long) in
      read.left ∙ rw (over, no_modes, append-nil, e, ← (three_parts parts read.three))

  -- the parts of the step's term are earlier records, and there is room for two more
  pub read_parts : i ≡ length row.modes.now → record_size * (next + 2) ≤ length terms → next + 1 ≤ 65536
      → Parts row.term (get_or parts 0 0) (get_or parts 1 0) (get_or parts 2 0) terms next × Room terms (next + 1)
  read_parts e room few = (
    record {
      room = record { room = omega arith; few = omega arith };
      earlier = rw is_row.parts_are (each_part (λ part. part < next) parts (length row.modes.now) is_row.few (λ j l. read.earlier j (omega arith)));
      newest = λ own. read.newest 0 (omega (arith, own_parts own, is_row.parts_are));
    },
    record { room = omega arith; few = few },
  )
