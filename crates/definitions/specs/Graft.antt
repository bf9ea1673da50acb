-- Document 02, ticket 11: the donor's steps in place of a Sorry step of the host that has no premisses, as bytes; or the first of
-- the host's 1 to 11, the donor's, 26, 27, 28 and 16.
use Rattle.std.specs.Prelude.{ℕ, zero, suc, ◌+◌, ◌*◌, ◌-◌, Bool, ◌||◌, not, cond, List, [], ◌∷◌, ◌++◌, map, length, get_or, take, drop, ltb, leb, eqb, unwrap_or}
use Rattle.definitions.specs.declared.Refusal.{Refusal}
use Rattle.definitions.specs.declared.Located.{Located}
use Rattle.definitions.specs.declared.Whose.{Whose}
use Rattle.definitions.specs.declared.Whose.TheVariants.{Neither, Host, Donor}
use Rattle.definitions.specs.Outcome.{Outcome, refused, accepted, ◌>>=◌, refuse_if}
use Rattle.definitions.specs.Name.{Name, eq_name}
use Rattle.definitions.specs.Prop.{rename_prop}
use Rattle.definitions.specs.Code.{u16, encode}
use Rattle.definitions.specs.Sheet as sheet
use Rattle.definitions.specs.Sheet.{step_size, tree_nesting_limit, text_length, code_length, rule_byte, premiss_count, step_number, column, text_bytes, code_bytes, name_of, header_out_of_range}
use Rattle.definitions.specs.Tree.{height, Sorry, rule_in, identifier_count, prop_of, root_of}
use Rattle.definitions.specs.Admission.{admitted}
use Rattle.definitions.specs.Encode.{rule_number, concat, encode_pairs}
use Rattle.definitions.specs.Text.{firsts_after}
use Rattle.definitions.specs.Equal.{eq_conclusion}
use Rattle.definitions.specs.Answers.{is_in_room, located, named_conclusion}
use Rattle.definitions.specs.Assemble.{Parts, assemble}
use Rattle.definitions.specs.NameIndex.{plain_search}

-- the numbers below n, from 0 up
unfoldable pub up_to : ℕ → List ℕ
up_to zero = []
up_to (suc n) = up_to n ++ (n ∷ [])

-- the names of a sheet, by number
unfoldable pub names_of : List ℕ → List Name
names_of s = map (name_of s) (up_to (sheet.names s))

-- 26: the host step is no Sorry without premisses
unfoldable pub not_open : List ℕ → ℕ → Bool
not_open h k =
    let r = sheet.step_records h in
    leb (sheet.steps h) k || (not (eqb (rule_byte r k) (rule_number Sorry)) || not (eqb (premiss_count r k) 0))

-- Of the host's bytes and the donor's:
module _ (h d : List ℕ) where
  -- the donor's names that are missing by bytes, each once, in their order
  unfoldable pub missing : List Name
  missing = firsts_after eq_name (names_of h) (names_of d)

  unfoldable pub merged_names : List Name
  merged_names = names_of h ++ missing

  -- a donor name's number in the result: the lowest of equal bytes
  unfoldable pub renumbered : ℕ → ℕ
  renumbered n = unwrap_or (plain_search (λ i. get_or merged_names i []) (length merged_names) (name_of d n)) 0

  -- the same where the step has that name; where it lacks it, the field stays 0
  unfoldable pub donor_name : ℕ → Bool → ℕ
  donor_name n has = cond has (renumbered n) n

  -- the donor's propositions over those numbers
  unfoldable pub donor_codes : List (List ℕ)
  donor_codes = map (λ i. encode (rename_prop renumbered (prop_of d i))) (up_to (sheet.propositions d))

  -- a donor step: its names renumbered, its proposition after the host's; ids and column are kept
  unfoldable pub donor_record : ℕ → List ℕ
  donor_record k =
      let r = sheet.step_records d in
      let identifiers = identifier_count (rule_in r k) in
      let is_prop = eqb (step_number r k 10) 0 in
      rule_byte r k ∷ premiss_count r k
      ∷ (u16 (donor_name (step_number r k 2) (leb 1 identifiers)) ++ (u16 (step_number r k 4)
      ++ (u16 (donor_name (step_number r k 6) (leb 2 identifiers)) ++ (u16 (step_number r k 8)
      ++ (u16 (step_number r k 10)
      ++ (u16 (cond is_prop (sheet.propositions h + step_number r k 12) (renumbered (step_number r k 12)))
      ++ (u16 (step_number r k 14) ++ (u16 (donor_name (step_number r k 16) (not is_prop)) ++ u16 (column r k)))))))))

  unfoldable pub donor_records : List ℕ
  donor_records = concat (map donor_record (up_to (sheet.steps d)))

  -- the parts of the result: the host's byte for byte, what is appended without gaps, the host's goal
  unfoldable pub merged_parts : ℕ → Parts
  merged_parts k =
      record {
        names = sheet.names h + length missing;
        propositions = sheet.propositions h + sheet.propositions d;
        steps = (sheet.steps h + sheet.steps d) - 1;
        goal = sheet.goal h;
        name_pairs = sheet.name_pairs h ++ encode_pairs (text_length h) missing;
        proposition_pairs = sheet.proposition_pairs h ++ encode_pairs (code_length h) donor_codes;
        step_records = take (step_size * k) (sheet.step_records h) ++ (donor_records ++ drop (step_size * (k + 1)) (sheet.step_records h));
        text = text_bytes h ++ concat missing;
        code = code_bytes h ++ concat donor_codes;
      }

  -- the result: the donor's steps in place of step k of the host
  unfoldable pub merged_sheet : ℕ → List ℕ
  merged_sheet k = assemble (merged_parts k)

  -- 27: the conclusions of the host step and of the donor's root differ
  unfoldable pub differ : ℕ → Bool
  differ k = not (eq_conclusion (named_conclusion h k) (named_conclusion d (sheet.steps d - 1)))

  -- 28: the result passes a limit of the sheet
  unfoldable pub passes_limit : ℕ → Bool
  passes_limit k = header_out_of_range (merged_sheet k) || ltb tree_nesting_limit (height (root_of (merged_sheet k)))

  -- the result in a room of bytes, where both sheets are admitted
  unfoldable pub graft : ℕ → ℕ → Outcome (List ℕ)
  graft k room = do
    _ ← refuse_if (not_open h k) 26 0
    _ ← refuse_if (differ k) 27 0
    _ ← refuse_if (passes_limit k) 28 0
    is_in_room room (accepted (merged_sheet k))

-- the merged sheet, or a refusal and whose it is
pub data Grafted : Type 0 where
  refused_by : Whose → Refusal → Grafted
  merged : List ℕ → Grafted

unfoldable pub by : {A : Type 0} → Whose → Outcome A → (A → Grafted) → Grafted
by w (refused r) next = refused_by w r
by w (accepted a) next = next a

-- the host's 1 to 11 come first, then the donor's, then those of neither
unfoldable pub graft_answer : List ℕ → List ℕ → ℕ → ℕ → Grafted
graft_answer h d k room = by Host (admitted h) (λ _. by Donor (admitted d) (λ _. by Neither (graft h d k room) merged))

-- a refusal as it is handed back: with the column of the step that it names in the sheet whose it is
unfoldable pub located_by : List ℕ → List ℕ → Whose → Refusal → Located
located_by h d Neither r = record { refusal = r; column = 0 }
located_by h d Host r = located h r
located_by h d Donor r = located d r
