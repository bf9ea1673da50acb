-- The part that the board reads has the whole input's answer: of a longer input it keeps the header, and its length is no sheet's.
use Prim.Native.Nat.{ℕ, ◌+◌, ◌≤◌, ◌<◌}
use native.Mathlib.Omega.{arith}
use mathlib.Core.Path.{◌≡◌, refl, sym, ap, ◌∙◌}
use mathlib.Core.Bool.{Bool, true, false, cond}
use mathlib.Core.List.{List}
use lib.ListN.{length, take}
use lib.Seq.{take_all, length-take-le, get_or-take}
use lib.Dec.{leb}
use borrow.Author.Tests.{le-ltb, leb-true, leb-false, ne_eqb}
use Rattle.definitions.specs.declared.Refusal.{Refusal}
use Rattle.definitions.specs.Outcome.{refused, refuse, ◌>>=◌, map_outcome, refuse_if}
use Rattle.definitions.specs.Sheet.{header_size, pair_size, name_limit, proposition_limit, step_size, step_limit, text_limit, code_limit, number_at, text_length, names, code_length, propositions, steps, goal, header_out_of_range, name_pairs_start, proposition_pairs_start, steps_start, text_start, code_start, sheet_length}
use Rattle.definitions.specs.Admission.{header_checks, admitted}
use Rattle.definitions.specs.Answers.{sheet_term, named_term, sheet_text, is_in_room, version_of, text_answer, names_step, column_of, located, printed, refusal_line, board_output}
use Rattle.sheet.specs.Header.{header_of}
use Rattle.definitions.proofs.Ranges.{in_range}
use Rattle.sheet.proofs.Order.{in_stages}
use Rattle.board.specs.Input.{longest_sheet, input_room, read_part}

pub input_room_lem : input_room ≡ 40973
unfolding input_room longest_sheet header_size pair_size name_limit proposition_limit step_size step_limit text_limit code_limit
input_room_lem = refl

-- a header in range gives no length past the longest sheet's
in_range_length : (s : List ℕ) → header_out_of_range s ≡ false → sheet_length s ≤ longest_sheet
unfolding header_of sheet_length code_start text_start steps_start proposition_pairs_start name_pairs_start longest_sheet pair_size step_size name_limit proposition_limit step_limit text_limit code_limit
in_range_length s e = let r = in_range s e in omega arith

long_enough : (s : List ℕ) → longest_sheet < length s → header_size ≤ length s
unfolding longest_sheet header_size
long_enough s longer = omega arith

-- a longer input is refused with 2 or with 3, by its header
too_long : Bool → Refusal
too_long out_of_range = record { number = cond out_of_range 2 3; place = 0 }

header_refused : (s : List ℕ) → longest_sheet < length s → (b : Bool) → header_out_of_range s ≡ b → header_checks s ≡ refused (too_long b)
unfolding too_long header_checks refuse_if refuse ◌>>=◌
header_refused s longer true e = rw (le-ltb _ _ (long_enough s longer), e)
header_refused s longer false e =
    rw (le-ltb _ _ (long_enough s longer), e, ne_eqb (length s) (sheet_length s) (λ same. omega (arith, in_range_length s e)))

longer_refused : (s : List ℕ) → longest_sheet < length s → admitted s ≡ refused (too_long (header_out_of_range s))
unfolding ◌>>=◌
longer_refused s longer = sym (in_stages s) ∙ rw (header_refused s longer _ refl)

-- the part that is read has the same header
number_at_take : (n : ℕ) (s : List ℕ) (i : ℕ) → i + 1 < n → number_at (take n s) i ≡ number_at s i
unfolding number_at
number_at_take n s i h = rw (get_or-take n s i 0 (omega arith), get_or-take n s (i + 1) 0 h)

header_out_of_range_read : (s : List ℕ) → header_out_of_range (read_part s) ≡ header_out_of_range s
unfolding header_out_of_range text_length names code_length propositions steps goal read_part
header_out_of_range_read s =
    simp (number 0 (omega arith), number 2 (omega arith), number 4 (omega arith), number 6 (omega arith), number 8 (omega arith), number 10 (omega arith))
  where
    number : (i : ℕ) → i ≤ 10 → number_at (take input_room s) i ≡ number_at s i
    number i h = number_at_take input_room s i (omega (arith, input_room_lem))

-- a refusal of 1 to 11 is the board's line
refused_line : (s : List ℕ) {r : Refusal} → admitted s ≡ refused r → board_output s ≡ refusal_line (located s r)
unfolding board_output printed text_answer version_of is_in_room sheet_text named_term sheet_term map_outcome ◌>>=◌
refused_line s e = rw e

-- that of a longer input hands back no column
no_column : (s t : List ℕ) (b : Bool) → located s (too_long b) ≡ located t (too_long b)
unfolding too_long located column_of names_step
no_column s t true = refl
no_column s t false = refl

-- what the board reads is enough: the answer is the one for the whole input
pub read_suffices : (s : List ℕ) → board_output (read_part s) ≡ board_output s
unfolding read_part input_room
read_suffices s = go (leb (length s) input_room) refl
  where
    go : (b : Bool) → leb (length s) input_room ≡ b → board_output (read_part s) ≡ board_output s
    go true e = rw (take_all _ _ (leb-true _ _ e))
    go false e =
        let longer : input_room < length s = leb-false _ _ e in
        let read : length (read_part s) ≡ input_room = length-take-le _ _ (omega arith) in
        refused_line (read_part s) (longer_refused (read_part s) (omega arith))
        ∙ ap (λ b. refusal_line (located (read_part s) (too_long b))) (header_out_of_range_read s)
        ∙ ap refusal_line (no_column (read_part s) s _)
        ∙ sym (refused_line s (longer_refused s (omega arith)))
