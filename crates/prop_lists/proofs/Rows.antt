-- A row of propositions reads back. Behind the head of its first one stands a row again: that one's parts, and then the others.
use Prim.Native.Nat.{ℕ, zero, suc, ◌+◌, ◌-◌, ◌≤◌, ◌<◌}
use mathlib.Core.Path.{◌≡◌, refl, ap, ◌∙◌}
use mathlib.Core.List.{List, [], ◌∷◌, ◌++◌, append_assoc, append-nil, map-append, flat_map}
use native.Mathlib.Omega.{arith}
use lib.ListN.{length, drop, length-append, length-drop}
use lib.Seq.{take_at}
use Rattle.std.proofs.lemmas.Grind.{flat_map-append}
use Rattle.definitions.specs.declared.TermList.{TermList}
use Rattle.definitions.specs.declared.TermList.TheVariants.{Atoms, Datatypes}
use Rattle.definitions.specs.Prop.{Prop, AtomUse, True, False, Binary, Atom, Quantified, get_atoms, get_datatypes}
use Rattle.definitions.specs.Code.{followed_by, ◌>>=◌, byte, proposition, encode}
use Rattle.definitions.proofs.PrefixCode.{code_nonempty, read_encode}
use Rattle.prefix_code.specs.Scan.{Stands, At, Scanned}
use Rattle.prefix_code.specs.PropAt.{prop_at, Present}
use Rattle.prefix_code.specs.Head.{Head, TrueHead, FalseHead, BinaryHead, AtomHead, QuantifiedHead, encode_head}
use Rattle.prefix_code.specs.Row.{encode_row, CodableRow, row_coding}
use Rattle.prefix_code.proofs.Positions.{after, extent}
use Rattle.prefix_code.proofs.Heads.{HeadAt}
use Rattle.prefix_code.proofs.Forms.{inside_at}
use Rattle.prefix_code.proofs.Propositions.{head_long}
use Rattle.prefix_code.proofs.Reading.{prop_at_lem, present}
use Rattle.prefix_code.proofs.Rows.{head_of, parts, row_code, head_codable, codable_append}
use Rattle.vocabulary.specs.declared.Vocabulary.{Vocabulary}
use Rattle.vocabulary.specs.Vocabulary.{code_in, prop_in, SomeProposition}
use Rattle.prop_lists.specs.Row.{Row, and_after, read_row, propositions_from}
use Rattle.prop_lists.specs.Entries.{use_of, entries, entries_from}

-- what a head adds to a list
abbrev pub head_entries : Head → TermList → List (AtomUse ℕ)
head_entries TrueHead list = []
head_entries FalseHead list = []
head_entries (BinaryHead c) list = []
head_entries (AtomHead a ps) Atoms = use_of a (length ps) ∷ []
head_entries (AtomHead a ps) (Datatypes v) = []
head_entries (QuantifiedHead q x t) Atoms = []
head_entries (QuantifiedHead q x t) (Datatypes v) = use_of t 0 ∷ []

head_list : (p : Prop ℕ) (list : TermList) → entries list p ≡ head_entries (head_of p) list ++ flat_map (entries list) (parts p)
unfolding get_atoms get_datatypes flat_map
head_list True = elim [ Atoms ↦ refl | Datatypes v ↦ refl ]
head_list False = elim [ Atoms ↦ refl | Datatypes v ↦ refl ]
head_list (Binary c p q) = elim [ Atoms ↦ rw append-nil | Datatypes v ↦ rw (map-append (λ t. use_of t 0) (get_datatypes p) (get_datatypes q), append-nil) ]
head_list (Atom a ps) = elim [ Atoms ↦ refl | Datatypes v ↦ refl ]
head_list (Quantified q x t p) = elim [ Atoms ↦ rw append-nil | Datatypes v ↦ rw append-nil ]

module _ (names : ℕ) where
  -- as many bytes as a row has are enough to read it
  read_row_lem : (bytes : ℕ) (ps : List (Prop ℕ)) → CodableRow names ps → length (encode_row ps) ≤ bytes → read_row names bytes (encode_row ps) ≡ ps
  unfolding read_row and_after CodableRow flat_map proposition byte followed_by ◌>>=◌
  read_row_lem zero [] g h = refl
  read_row_lem (suc bytes) [] g h = refl
  read_row_lem zero (p ∷ ps) g h = absurd (omega (arith, code_nonempty p, length-append (encode p) (encode_row ps)))
  read_row_lem (suc bytes) (p ∷ ps) g h =
      let sum = length-append (encode p) (encode_row ps) in
      let long = code_nonempty p in
      ap (λ r. and_after names r (read_row names bytes)) (read_encode names (suc bytes) p (encode_row ps) g.0 (omega arith))
      ∙ ap (λ qs. p ∷ qs) (read_row_lem bytes ps g.1 (omega arith))

module _ (names : ℕ) (code : List ℕ) (at end : ℕ) where
  row_length : (row : Row names code at end) → end ≡ at + length (encode_row row.propositions)
  unfolding Stands
  row_length row =
      let start : at ≤ length code = omega arith in
      omega (arith, extent code at (encode_row row.propositions) (drop end code) start row.stands.1, length-drop end code)

  -- the entries of a row, whatever is listed
  entries_row : (row : Row names code at end) (list : TermList)
      → entries_from names list code at end ≡ flat_map (entries list) row.propositions
  unfolding entries_from propositions_from Stands
  entries_row row list =
      let ps : List (Prop ℕ) = row.propositions in
      let long : length (encode_row ps) ≡ end - at = omega (arith, row_length row) in
      ap (flat_map (entries list))
      (rw (row.stands.1, take_at (encode_row ps) (drop end code) (end - at) long) (read_row_lem names (end - at) ps row.stands.0 (omega arith)))

  -- a proposition is a row of one
  pub row_of : (p : Prop ℕ) (rest : List ℕ) → At names code at p rest → end ≡ at + length (encode p) → Row names code at end
  unfolding Stands CodableRow flat_map
  row_of p rest s ends =
      let inside = (inside_at names code at rest p s).1 in
      let next : drop end code ≡ rest = rw ends (after code at (encode p) rest s.1) in
      record {
        propositions = p ∷ [];
        stands = ((s.0, tt), rw (append-nil, next) s.1);
        forward = omega arith;
        inside = omega arith;
      }

  -- from where a proposition stands up to its end: its entries
  pub entries_of : (p : Prop ℕ) (rest : List ℕ) → At names code at p rest → end ≡ at + length (encode p) → (list : TermList)
      → entries_from names list code at end ≡ entries list p
  unfolding flat_map row_of
  entries_of p rest s ends list = entries_row (row_of p rest s ends) list ∙ append-nil (entries list p)

-- Of a proposition in a memory, whose code was cut out and scanned: it is a row of one, and has its entries.
module _ {bytes : List ℕ} {v : Vocabulary} {at : ℕ} (there : SomeProposition bytes v at) {code : List ℕ} (cut : code ≡ code_in bytes v) where
  pub present_there : Present v.name_count code at
  present_there = rw cut there.present

  module _ {end : ℕ} (scanned : Scanned v.name_count code at end) where
    pub row_there : Row v.name_count code at end
    row_there = row_of _ code at end _ _ present_there.stands (scanned.found _ _ present_there.stands)

    pub entries_there : (list : TermList) → entries_from v.name_count list code at end ≡ entries list (prop_in bytes v at)
    unfolding prop_in
    entries_there list = rw (← cut) (entries_of _ code at end _ _ present_there.stands (scanned.found _ _ present_there.stands) list)

-- at the end of a row no entry is left
pub nothing_left : (names : ℕ) (code : List ℕ) (at end : ℕ) (list : TermList) → end ≤ at → entries_from names list code at end ≡ []
unfolding entries_from propositions_from read_row flat_map
nothing_left names code at end list h = let none : end - at ≡ 0 = omega arith in rw none refl

-- `next` is where the head ends that stands at `at`, whichever that is
abbrev pub HeadEnds : ℕ → List ℕ → ℕ → ℕ → Type 0
HeadEnds names code at next = (h : Head) (rest : List ℕ) → HeadAt names code at h rest → next ≡ at + length (encode_head h)

-- Behind the first head of a row, which ends at `next`, a row stands again; what that head adds to a list.
pub record First (names : ℕ) (code : List ℕ) (at end next : ℕ) : Type 0 where
  pub further : at < next
  pub row : Row names code next end
  pub adds : (list : TermList)
      → entries_from names list code at end ≡ head_entries (head_of (prop_at names code at)) list ++ entries_from names list code next end

module _ (p : Prop ℕ) (ps : List (Prop ℕ)) where
  -- the entries of a row: first those of the head, and then those of what stands behind it
  row_list : (list : TermList) → flat_map (entries list) (p ∷ ps) ≡ head_entries (head_of p) list ++ flat_map (entries list) (parts p ++ ps)
  unfolding flat_map
  row_list list = cc (
    head_list p list,
    flat_map-append (entries list) (parts p) ps,
    append_assoc (head_entries (head_of p) list) (flat_map (entries list) (parts p)) (flat_map (entries list) ps),
  )

  head_stands : (names : ℕ) (code : List ℕ) (at : ℕ) (rest : List ℕ) → Stands (row_coding names) code at (p ∷ ps) rest
      → HeadAt names code at (head_of p) (encode_row (parts p ++ ps) ++ rest)
  unfolding Stands CodableRow
  head_stands names code at rest (g, e) =
      ((head_codable names p g.0).0, cc (row_code p ps, append_assoc (encode_head (head_of p)) (encode_row (parts p ++ ps)) rest))

  -- the first proposition of a row stands in front of the others
  first_stands : (names : ℕ) (code : List ℕ) (at : ℕ) (rest : List ℕ) → Stands (row_coding names) code at (p ∷ ps) rest
      → At names code at p (encode_row ps ++ rest)
  unfolding Stands CodableRow flat_map
  first_stands names code at rest (g, e) = (g.0, cc (e, append_assoc (encode p) (encode_row ps) rest))

module _ (names : ℕ) (code : List ℕ) (at end : ℕ) (row : Row names code at end) (before : at < end) where
  -- a proposition stands in front
  pub front : Present names code at
  unfolding Stands CodableRow flat_map
  front = go row.propositions refl
    where
      go : (ps : List (Prop ℕ)) → row.propositions ≡ ps → Present names code at
      go [] e = absurd (omega (arith, row_length names code at end row, ap (λ qs. length (encode_row qs)) e))
      go (p ∷ ps) e = present names code at p (encode_row ps ++ drop end code) (first_stands p ps names code at (drop end code) (rw e at row.stands))

  pub first : (next : ℕ) → HeadEnds names code at next → First names code at end next
  unfolding Stands CodableRow flat_map
  first next ends = go row.propositions refl
    where
      go : (ps : List (Prop ℕ)) → row.propositions ≡ ps → First names code at end next
      go [] e = absurd (omega (arith, row_length names code at end row, ap (λ qs. length (encode_row qs)) e))
      go (p ∷ ps) e =
          let whole : Stands (row_coding names) code at (p ∷ ps) (drop end code) = rw e at row.stands in
          let rest : List ℕ = encode_row (parts p ++ ps) ++ drop end code in
          let here = head_stands p ps names code at (drop end code) whole in
          let is : prop_at names code at ≡ p = prop_at_lem names code at p (encode_row ps ++ drop end code) (first_stands p ps names code at (drop end code) whole) in
          let size = extent code at (encode_head (head_of p)) rest (omega arith) here.1 in
          let ended : next ≡ at + length (encode_head (head_of p)) = ends (head_of p) rest here in
          let there : drop next code ≡ rest = rw ended (after code at (encode_head (head_of p)) rest here.1) in
          let behind : Row names code next end = record {
            propositions = parts p ++ ps;
            stands = (codable_append names (parts p) ps (head_codable names p whole.0.0).1 whole.0.1, there);
            forward = omega (arith, length-append (encode_row (parts p ++ ps)) (drop end code), length-drop end code);
            inside = row.inside;
          } in
          record {
            further = omega (arith, head_long (head_of p));
            row = behind;
            adds = λ list.
                rw is (cc (entries_row names code at end row list, e, row_list p ps list, entries_row names code next end behind list));
          }
