-- Document 01's drawings marked ● and those of document 02: each with its sheet, a question and the answer that the document gives.
use Rattle.std.specs.Prelude.{ℕ, Bool, true, false, List, [], ◌∷◌, ◌++◌, map, length, take, set, replicate, Option, None, Some}
use Prim.Native.String.{String}
use Rattle.definitions.specs.declared.Style.{Style}
use Rattle.definitions.specs.declared.Style.TheVariants.{Plain, Strict}
use Rattle.definitions.specs.Utf8.{utf8}
use Rattle.definitions.specs.Outcome.{Outcome, accepted, refuse, map_outcome}
use Rattle.definitions.specs.Prop.{Prop, True, False, And, Or, Impl, Atom, ForAll, Exists, Uninstantiated, Instantiated}
use Rattle.definitions.specs.Tree.{Identifier, ProofTreeRule, AndIntro, AndElimFst, AndElimSnd, TrueIntro, ImplIntro, ImplElim, Ident, OrIntroFst, OrIntroSnd, OrElim, ForAllIntro, ForAllElim, ExistsElim, Sorry, AlphaEquivalent}
use Rattle.definitions.specs.Code.{u16, encode}
use Rattle.definitions.specs.Assemble.{assemble}
use Rattle.definitions.specs.Encode.{no_identifier, encode_rule, encode_prop_is_true, encode_pairs, encode_sheet}
use Rattle.definitions.specs.Answers.{text_answer, atoms_answer, datatypes_answer, label_count, comparison, board_room, board_output}
use Rattle.definitions.specs.Restate.{Given, restate_answer}
use Rattle.definitions.specs.Exercises.{exercise_answer}
use Rattle.definitions.specs.NameIndex.{slot_count, free, index_of, index_answer, find_answer}

-- a question about a sheet: a text, how many bytes it has, a list, the label count, a comparison of two steps, what the board
-- prints, a text or a datatype list of a version, a restatement in a room, the index of its names, or what that answers of a name;
-- texts and lists are lent the board's room. Or about a caller's names: the exercise of at most so many connectives at an ordinal,
-- in a room
pub data Question : Type 0 where
  text size : Style → Question
  atoms datatypes labels board : Question
  compare : ℕ → ℕ → Question
  handout : ℕ → Style → Question
  handout_datatypes : ℕ → Question
  restate : Given → ℕ → Question
  exercise : ℕ → ℕ → ℕ → Question
  name_index : Question
  find_name : String → Question

pub data Answer : Type 0 where
  bytes numbers : List ℕ → Answer
  count : ℕ → Answer
  yes_no : Bool → Answer
  found : Option ℕ → Answer

unfoldable pub ask : Question → List ℕ → Outcome Answer
ask (text style) s = map_outcome bytes (text_answer s 1 style board_room)
ask (size style) s = map_outcome (λ a. count (length a)) (text_answer s 1 style board_room)
ask atoms s = map_outcome numbers (atoms_answer s board_room)
ask datatypes s = map_outcome numbers (datatypes_answer s 1 board_room)
ask labels s = map_outcome count (label_count s)
ask board s = accepted (bytes (board_output s))
ask (compare i j) s = map_outcome yes_no (comparison s i j)
ask (handout version style) s = map_outcome bytes (text_answer s version style board_room)
ask (handout_datatypes version) s = map_outcome numbers (datatypes_answer s version board_room)
ask (restate g room) s = map_outcome bytes (restate_answer s g room)
ask (exercise n ordinal room) s = map_outcome bytes (exercise_answer s n ordinal room)
ask name_index s = map_outcome numbers (index_answer s)
ask (find_name x) s = map_outcome found (find_answer s (index_of s) (utf8 x))

pub record Drawing : Type 0 where
  pub sheet : List ℕ
  pub question : Question
  pub answer : Outcome Answer

unfoldable pub drawing : List ℕ → Question → Outcome Answer → Drawing
drawing s q a = record { sheet = s; question = q; answer = a }

-- the answers that document 01 gives
unfoldable pub prints : String → Outcome Answer
prints t = accepted (bytes (utf8 t))

unfoldable pub lists : List ℕ → Outcome Answer
lists ns = accepted (numbers ns)

unfoldable pub counts : ℕ → Outcome Answer
counts n = accepted (count n)

unfoldable pub says : Bool → Outcome Answer
says b = accepted (yes_no b)

-- the atom of a name's number, without parameters
unfoldable pub letter : ℕ → Prop ℕ
letter a = Atom a []

-- the identifier of a name's number, with id 0
unfoldable pub the : ℕ → Identifier ℕ
the x = record { name = x; unique_id = 0 }

-- the step of a rule over so many premisses that concludes the proposition of a number, in column 0; by how many identifiers
-- it names
unfoldable pub step : ProofTreeRule → ℕ → ℕ → List ℕ
step r n prop = encode_rule r n no_identifier no_identifier ++ encode_prop_is_true prop 0

unfoldable pub step_naming : ProofTreeRule → ℕ → ℕ → ℕ → List ℕ
step_naming r x n prop = encode_rule r n (the x) no_identifier ++ encode_prop_is_true prop 0

unfoldable pub step_naming_two : ProofTreeRule → ℕ → ℕ → ℕ → ℕ → List ℕ
step_naming_two r x y n prop = encode_rule r n (the x) (the y) ++ encode_prop_is_true prop 0

-- the same step in a column
unfoldable pub drawn_in : ℕ → List ℕ → List ℕ
drawn_in column drawn = take 18 drawn ++ u16 column

-- names, propositions, the goal's number and steps as one sheet
unfoldable pub sheet : List String → List (Prop ℕ) → ℕ → List (List ℕ) → List ℕ
sheet names props goal steps = encode_sheet (map utf8 names) props goal steps

unfoldable pub smallest : List ℕ
smallest =
    0x00 ∷ 0x00 ∷ 0x00 ∷ 0x00 ∷ 0x01 ∷ 0x00 ∷ 0x01 ∷ 0x00 ∷ 0x01 ∷ 0x00 ∷ 0x00 ∷ 0x00
    ∷ 0x00 ∷ 0x00 ∷ 0x01 ∷ 0x00
    ∷ 0x03
    ∷ 0x00 ∷ 0x00 ∷ 0x00 ∷ 0x00 ∷ 0x00 ∷ 0x00 ∷ 0x00 ∷ 0x00 ∷ 0x00 ∷ 0x00 ∷ 0x00 ∷ 0x00 ∷ 0x00 ∷ 0x00 ∷ 0x00 ∷ 0x00 ∷ 0x00
    ∷ 0x00 ∷ 0x00
    ∷ 0x00 ∷ []

-- ImplIntro u, OrIntroFst, Ident u; goal A ⊃ A ∨ B
unfoldable pub second : List ℕ
second =
    sheet ("A" ∷ "B" ∷ "u" ∷ [])
    (Impl (letter 0) (Or (letter 0) (letter 1)) ∷ Or (letter 0) (letter 1) ∷ letter 0 ∷ []) 0
    (step_naming Ident 2 0 2 ∷ step OrIntroFst 1 1 ∷ step_naming ImplIntro 2 1 0 ∷ [])

unfoldable pub root_sorry : List ℕ
root_sorry = sheet [] (True ∷ []) 0 (step Sorry 0 0 ∷ [])

-- AndElimFst over Sorry of A ∧ B
unfoldable pub fst_of_sorry : List ℕ
fst_of_sorry =
    sheet ("A" ∷ "B" ∷ []) (And (letter 0) (letter 1) ∷ letter 0 ∷ []) 1 (step Sorry 0 0 ∷ step AndElimFst 1 1 ∷ [])

-- the same with AlphaEquivalent between, concluding B ∧ A
unfoldable pub fst_of_alpha_equivalent : List ℕ
fst_of_alpha_equivalent =
    sheet ("A" ∷ "B" ∷ []) (And (letter 0) (letter 1) ∷ letter 1 ∷ And (letter 1) (letter 0) ∷ []) 1
    (step Sorry 0 0 ∷ step AlphaEquivalent 1 2 ∷ step AndElimFst 1 1 ∷ [])

-- Ident u, ImplIntro u, Ident v, ImplElim; step 1 concludes the proposition of the given number: A, or A ⊃ A
unfoldable pub applied : ℕ → List ℕ
applied conclusion =
    sheet ("A" ∷ "u" ∷ "v" ∷ []) (letter 0 ∷ Impl (letter 0) (letter 0) ∷ []) 0
    (step_naming Ident 1 0 0 ∷ step_naming ImplIntro 1 1 conclusion ∷ step_naming Ident 2 0 0 ∷ step ImplElim 2 0 ∷ [])

-- AndElimSnd over AndIntro of OrIntroFst (A ∨ B, Ident a) and TrueIntro
unfoldable pub snd_of_pair : List ℕ
snd_of_pair =
    sheet ("A" ∷ "B" ∷ "a" ∷ [])
    (letter 0 ∷ Or (letter 0) (letter 1) ∷ True ∷ And (Or (letter 0) (letter 1)) True ∷ []) 2
    (step_naming Ident 2 0 0 ∷ step OrIntroFst 1 1 ∷ step TrueIntro 0 2 ∷ step AndIntro 2 3 ∷ step AndElimSnd 1 2 ∷ [])

-- ImplElim of an OrElim and Ident c
unfoldable pub case_applied : List ℕ
case_applied =
    sheet ("h" ∷ "x" ∷ "a" ∷ "y" ∷ "b" ∷ "c" ∷ []) (True ∷ []) 0
    (step_naming Ident 0 0 0 ∷ step_naming Ident 2 0 0 ∷ step_naming Ident 4 0 0 ∷ step_naming_two OrElim 1 3 3 0
    ∷ step_naming Ident 5 0 0 ∷ step ImplElim 2 0 ∷ [])

unfoldable pub alpha_equivalent_alone : List ℕ
alpha_equivalent_alone = sheet [] (True ∷ []) 0 (step AlphaEquivalent 0 0 ∷ [])

-- AndElimFst over Sorry of a proposition over A and B, so that the text prints it as a label
unfoldable pub label_of : Prop ℕ → List ℕ
label_of p = sheet ("A" ∷ "B" ∷ []) (p ∷ []) 0 (step Sorry 0 0 ∷ step AndElimFst 1 0 ∷ [])

-- AndIntro over Sorry of each of two propositions over P, T, x and y: steps 0 and 1 conclude them
unfoldable pub sorries : Prop ℕ → Prop ℕ → List ℕ
sorries p q =
    sheet ("P" ∷ "T" ∷ "x" ∷ "y" ∷ []) (p ∷ q ∷ []) 0 (step Sorry 0 0 ∷ step Sorry 0 1 ∷ step AndIntro 2 0 ∷ [])

-- P of the object of a name's number
unfoldable pub of_object : ℕ → Prop ℕ
of_object x = Atom 0 (Uninstantiated x ∷ [])

-- ImplIntro u over AndElimFst over AndIntro of OrIntroFst and OrIntroSnd, each of Ident u: two labels
unfoldable pub two_labels : List ℕ
two_labels =
    let either = Or (letter 0) (letter 0) in
    sheet ("A" ∷ "u" ∷ []) (letter 0 ∷ either ∷ And either either ∷ Impl (letter 0) either ∷ []) 3
    (step_naming Ident 1 0 0 ∷ step OrIntroFst 1 1 ∷ step_naming Ident 1 0 0 ∷ step OrIntroSnd 1 1 ∷ step AndIntro 2 2
    ∷ step AndElimFst 1 1 ∷ step_naming ImplIntro 1 1 3 ∷ [])

unfoldable pub drawings : List Drawing
drawings =
    drawing smallest (text Plain) (prints "\n\n\n()")
    ∷ drawing smallest (size Plain) (counts 5)
    ∷ drawing second (text Plain) (prints "atom A;\natom B;\n\n\nfn u => inl u")
    ∷ drawing second (size Plain) (counts 31)
    ∷ drawing root_sorry (text Plain) (prints "\n\n\nsorry")
    ∷ drawing root_sorry labels (counts 0)
    ∷ drawing fst_of_sorry (text Plain) (prints "atom A;\natom B;\n\n\nfst (sorry: A ∧ B)")
    ∷ drawing fst_of_sorry atoms (lists (0 ∷ 0 ∷ 1 ∷ 0 ∷ []))
    ∷ drawing fst_of_alpha_equivalent (text Plain) (prints "atom A;\natom B;\n\n\nfst (sorry: A ∧ B)")
    ∷ drawing (applied 1) (text Plain) (prints "atom A;\n\n\n(fn u: A => u) v")
    ∷ drawing (applied 0) (text Plain) (refuse 14 1)
    ∷ drawing snd_of_pair (text Plain) (prints "atom A;\natom B;\n\n\nsnd (inl a: A ∨ B, ())")
    ∷ drawing case_applied (text Plain) (prints "\n\n\ncase h of inl x => a, inr y => b c")
    ∷ drawing case_applied (text Strict) (prints "\n\n\n(case h of inl x => a, inr y => b) c")
    ∷ drawing alpha_equivalent_alone (text Plain) (refuse 12 0)
    ∷ drawing (label_of (Impl (Impl (letter 0) False) False)) (text Plain) (prints "atom A;\n\n\nfst (sorry: ¬¬A)")
    ∷ drawing (label_of (Impl (And (letter 0) (letter 1)) False)) (text Plain)
    (prints "atom A;\natom B;\n\n\nfst (sorry: ¬(A ∧ B))")
    ∷ drawing (sorries (ForAll 2 1 (of_object 2)) (ForAll 3 1 (of_object 3))) (compare 0 1) (says true)
    ∷ drawing (sorries (ForAll 2 1 (ForAll 3 1 (of_object 2))) (ForAll 2 1 (ForAll 2 1 (of_object 2)))) (compare 0 1) (says false)
    ∷ []

-- sheets that tell right from tempting and wrong, beside those above: names are compared by bytes; the right sides of a
-- comparison are not visited after a no on the left, where they would be refused; a label does not end the labelling; P(x) and
-- P(x, y) differ (ticket 7), whether their objects are instantiated or not: after a no by their counts the parameters are not
-- visited
unfoldable pub temptations : List Drawing
temptations =
    drawing (sheet ("A" ∷ "A" ∷ []) (letter 0 ∷ letter 1 ∷ []) 0 (step Sorry 0 0 ∷ step Sorry 0 1 ∷ step AndIntro 2 0 ∷ []))
    (compare 0 1) (says true)
    ∷ drawing (sorries (And True (of_object 2)) (And False (of_object 2))) (compare 0 1) (says false)
    ∷ drawing two_labels (text Plain) (prints "atom A;\n\n\nfn u => fst (inl u: A ∨ A, inr u: A ∨ A)")
    ∷ drawing two_labels labels (counts 2)
    ∷ drawing (sorries (Atom 0 (Instantiated 2 0 ∷ [])) (Atom 0 (Instantiated 2 0 ∷ Instantiated 3 0 ∷ []))) (compare 0 1) (says false)
    ∷ drawing (sorries (of_object 2) (Atom 0 (Uninstantiated 2 ∷ Uninstantiated 3 ∷ []))) (compare 0 1) (says false)
    ∷ []

-- Document 02, ticket 1: what strict text brackets.

-- f applied to a case, and that applied to c
unfoldable pub to_case_then_to : List ℕ
to_case_then_to =
    sheet ("f" ∷ "h" ∷ "x" ∷ "a" ∷ "y" ∷ "b" ∷ "c" ∷ []) (True ∷ []) 0
    (step_naming Ident 0 0 0 ∷ step_naming Ident 1 0 0 ∷ step_naming Ident 3 0 0 ∷ step_naming Ident 5 0 0
    ∷ step_naming_two OrElim 2 4 3 0 ∷ step ImplElim 2 0 ∷ step_naming Ident 6 0 0 ∷ step ImplElim 2 0 ∷ [])

-- f applied to a case whose second branch is b applied to c
unfoldable pub to_case_of_applied : List ℕ
to_case_of_applied =
    sheet ("f" ∷ "h" ∷ "x" ∷ "a" ∷ "y" ∷ "b" ∷ "c" ∷ []) (True ∷ []) 0
    (step_naming Ident 0 0 0 ∷ step_naming Ident 1 0 0 ∷ step_naming Ident 3 0 0 ∷ step_naming Ident 5 0 0
    ∷ step_naming Ident 6 0 0 ∷ step ImplElim 2 0 ∷ step_naming_two OrElim 2 4 3 0 ∷ step ImplElim 2 0 ∷ [])

-- AndElimFst over OrElim of Sorry three times: the head and the branches are ascribed
unfoldable pub ascribed_case : List ℕ
ascribed_case =
    sheet ("A" ∷ "x" ∷ "y" ∷ []) (letter 0 ∷ []) 0
    (step Sorry 0 0 ∷ step Sorry 0 0 ∷ step Sorry 0 0 ∷ step_naming_two OrElim 1 2 3 0 ∷ step AndElimFst 1 0 ∷ [])

-- ImplElim of ExistsElim of Sorry twice, and ExistsElim of Sorry and Ident b: heads and the first body are ascribed
unfoldable pub ascribed_lets : List ℕ
ascribed_lets =
    sheet ("A" ∷ "x" ∷ "y" ∷ "b" ∷ []) (letter 0 ∷ []) 0
    (step Sorry 0 0 ∷ step Sorry 0 0 ∷ step_naming_two ExistsElim 1 2 2 0
    ∷ step Sorry 0 0 ∷ step_naming Ident 3 0 0 ∷ step_naming_two ExistsElim 1 2 2 0 ∷ step ImplElim 2 0 ∷ [])

-- AndElimFst over AndIntro of Sorry and ImplIntro u over Sorry: a pair's part and a function's body are ascribed
unfoldable pub ascribed_parts : List ℕ
ascribed_parts =
    sheet ("A" ∷ "u" ∷ []) (letter 0 ∷ Impl (letter 0) (letter 0) ∷ []) 0
    (step Sorry 0 0 ∷ step Sorry 0 0 ∷ step_naming ImplIntro 1 1 1 ∷ step AndIntro 2 0 ∷ step AndElimFst 1 0 ∷ [])

-- the ticket's pair, which plain text does not tell apart; then an ascription in every part of a case, a let, a pair and a function,
-- and a let on either side of an application
unfoldable pub strict_drawings : List Drawing
strict_drawings =
    drawing to_case_then_to (text Plain) (prints "\n\n\nf case h of inl x => a, inr y => b c")
    ∷ drawing to_case_then_to (text Strict) (prints "\n\n\nf (case h of inl x => a, inr y => b) c")
    ∷ drawing to_case_of_applied (text Plain) (prints "\n\n\nf case h of inl x => a, inr y => b c")
    ∷ drawing to_case_of_applied (text Strict) (prints "\n\n\nf (case h of inl x => a, inr y => b c)")
    ∷ drawing ascribed_case (text Plain) (prints "atom A;\n\n\nfst (case sorry: A of inl x => sorry: A, inr y => sorry: A)")
    ∷ drawing ascribed_case (text Strict) (prints "atom A;\n\n\nfst (case (sorry: A) of inl x => (sorry: A), inr y => (sorry: A))")
    ∷ drawing ascribed_lets (text Plain) (prints "atom A;\n\n\nlet (x, y) = sorry: A in sorry: A let (x, y) = sorry: A in b")
    ∷ drawing ascribed_lets (text Strict)
    (prints "atom A;\n\n\n(let (x, y) = (sorry: A) in (sorry: A)) (let (x, y) = (sorry: A) in b)")
    ∷ drawing ascribed_parts (text Plain) (prints "atom A;\n\n\nfst (sorry: A, fn u: A => sorry: A)")
    ∷ drawing ascribed_parts (text Strict) (prints "atom A;\n\n\nfst (sorry: A, fn u: A => (sorry: A))")
    ∷ []

-- Document 02, tickets 3 and 8: the versions of the handout.

-- ForAllIntro v over ForAllElim of ForAllIntro x over Sorry of ∀y:U. ∃z:T. P(y, z), and Ident a; goal ∀v:V. ∀y:U. ∃z:T. P(y, z)
unfoldable pub second_handout : List ℕ
second_handout =
    let body : Prop ℕ = ForAll 5 2 (Exists 6 1 (Atom 0 (Uninstantiated 5 ∷ Uninstantiated 6 ∷ []))) in
    sheet ("P" ∷ "T" ∷ "U" ∷ "V" ∷ "x" ∷ "y" ∷ "z" ∷ "v" ∷ "a" ∷ []) (body ∷ ForAll 4 1 body ∷ ForAll 7 3 body ∷ []) 2
    (step Sorry 0 0 ∷ step_naming ForAllIntro 4 1 1 ∷ step_naming Ident 8 0 0 ∷ step ForAllElim 2 0 ∷ step_naming ForAllIntro 7 1 2 ∷ [])

-- Sorry of Pa ∧ (P(x) ∧ (P_ ∧ (PZ ∧ P))), its goal
unfoldable pub by_alphabet : List ℕ
by_alphabet =
    sheet ("Pa" ∷ "P" ∷ "P_" ∷ "PZ" ∷ "x" ∷ [])
    (And (Atom 0 []) (And (Atom 1 (Instantiated 4 0 ∷ [])) (And (Atom 2 []) (And (Atom 3 []) (Atom 1 [])))) ∷ []) 0 (step Sorry 0 0 ∷ [])

-- the datatypes of the sorry's label are met before that of the function around it, T twice; V is the goal's alone; the board prints
-- version 1; a number that is no version is refused before the bytes are looked at; version 3 sorts the declarations, a name before
-- its own extensions and then by count, and not the list
unfoldable pub handouts : List Drawing
handouts =
    drawing second_handout (handout 1 Plain)
    (prints "atom P(2);\ndatatype T;\ndatatype V;\ndatatype U;\n\nfn v => (fn x: T => sorry: ∀y:U. ∃z:T. P(y, z)) a")
    ∷ drawing second_handout (handout 2 Plain)
    (prints "datatype U;\ndatatype T;\ndatatype V;\natom P(2);\n\nfn v => (fn x: T => sorry: ∀y:U. ∃z:T. P(y, z)) a")
    ∷ drawing second_handout (handout 2 Strict)
    (prints "datatype U;\ndatatype T;\ndatatype V;\natom P(2);\n\nfn v => (fn x: T => (sorry: ∀y:U. ∃z:T. P(y, z))) a")
    ∷ drawing second_handout (handout 3 Plain)
    (prints "datatype T;\ndatatype U;\ndatatype V;\natom P(2);\n\nfn v => (fn x: T => sorry: ∀y:U. ∃z:T. P(y, z)) a")
    ∷ drawing by_alphabet (handout 2 Plain) (prints "\natom Pa;\natom P(1);\natom P_;\natom PZ;\natom P;\n\nsorry")
    ∷ drawing by_alphabet (handout 3 Plain) (prints "\natom P;\natom P(1);\natom PZ;\natom P_;\natom Pa;\n\nsorry")
    ∷ drawing second_handout board
    (prints "atom P(2);\ndatatype T;\ndatatype V;\ndatatype U;\n\nfn v => (fn x: T => sorry: ∀y:U. ∃z:T. P(y, z)) a")
    ∷ drawing second_handout (handout_datatypes 1) (lists (1 ∷ []))
    ∷ drawing second_handout (handout_datatypes 2) (lists (2 ∷ 1 ∷ 1 ∷ []))
    ∷ drawing second_handout (handout_datatypes 3) (lists (2 ∷ 1 ∷ 1 ∷ []))
    ∷ drawing smallest (handout 2 Plain) (prints "\n\n\n()")
    ∷ drawing [] (handout 2 Plain) (refuse 1 0)
    ∷ drawing [] (handout 3 Plain) (refuse 1 0)
    ∷ drawing [] (handout 4 Plain) (refuse 21 0)
    ∷ drawing [] (handout_datatypes 0) (refuse 21 0)
    ∷ []

-- Ticket 6, where on the glass: a refusal of 9 to 15 prints the column of its step, 0 too, and no other one prints a column; for
-- 9 the column's bytes stand as they are
unfoldable pub columns : List Drawing
columns =
    drawing (sheet [] (True ∷ []) 0 (drawn_in 4095 (step Sorry 0 0) ∷ [])) board (prints "\n\n\nsorry")
    ∷ drawing (sheet [] (True ∷ []) 0 (drawn_in 4096 (step Sorry 0 0) ∷ [])) board (prints "refused 9 at 0 column 4096\n")
    ∷ drawing (sheet [] (True ∷ []) 0 (drawn_in 6 (step Sorry 0 0) ∷ drawn_in 7 (step Sorry 0 0) ∷ [])) board
    (prints "refused 10 at 1 column 7\n")
    ∷ drawing (sheet [] (True ∷ []) 0 (drawn_in 40 (step AlphaEquivalent 0 0) ∷ drawn_in 41 (step AndElimFst 1 0) ∷ [])) board
    (prints "refused 12 at 0 column 40\n")
    ∷ drawing alpha_equivalent_alone board (prints "refused 12 at 0 column 0\n")
    ∷ drawing (smallest ++ (0 ∷ [])) board (prints "refused 3 at 0\n")
    ∷ []

-- Ticket 9, a conclusion restated.

-- so many steps over ∀x:T. P(x), ∀y:T. P(y) and ∀x:U. P(x), with a gap in the code after the first one; the goal is the second
unfoldable pub with_gap : ℕ → List ℕ → List ℕ
with_gap many steps =
    assemble
    (record {
      names = 5;
      propositions = 3;
      steps = many;
      goal = 1;
      name_pairs = encode_pairs 0 (map utf8 ("P" ∷ "T" ∷ "x" ∷ "y" ∷ "U" ∷ []));
      proposition_pairs = u16 0 ++ (u16 12 ++ (u16 13 ++ (u16 12 ++ (u16 25 ++ u16 12))));
      step_records = steps;
      text = utf8 "PTxyU";
      code = encode (ForAll 2 1 (of_object 2)) ++ (255 ∷ (encode (ForAll 3 1 (of_object 3)) ++ encode (ForAll 2 4 (of_object 2))));
    })

unfoldable pub sorry_in_column6 : List ℕ
sorry_in_column6 = drawn_in 6 (step Sorry 0 0)

-- the proposition of a number, and a column
unfoldable pub proposition : ℕ → ℕ → Given
proposition p column = record { kind = 0; first = p; second = 0; third = 0; column = column }

-- the object of a name and an id, of datatype T, which is name 0
unfoldable pub judgement : ℕ → ℕ → Given
judgement x id = record { kind = 1; first = x; second = id; third = 0; column = 0 }

unfoldable pub judgement_bytes : ℕ → ℕ → List ℕ
judgement_bytes x id = u16 1 ++ (u16 x ++ (u16 id ++ (u16 0 ++ u16 0)))

-- Ident of an object named x, once by name 1 and once by name 2
unfoldable pub judged : List (List ℕ) → List ℕ
judged more = sheet ("T" ∷ "x" ∷ "x" ∷ []) (True ∷ []) 0 ((encode_rule Ident 0 (the 1) no_identifier ++ judgement_bytes 1 5) ∷ more)

-- A bound object is renamed: the gap, the goal and the old step stay, and the new step has its column. Then 16, one byte short; 25,
-- another datatype; 23, no such proposition, a field that is not 0, no such kind, a column past the last; names by bytes, ids as they
-- are; 19, even where the conclusion is the root's own; 1 to 11 come first.
unfoldable pub restatements : List Drawing
restatements =
    drawing (with_gap 1 sorry_in_column6) (restate (proposition 1 7) 126)
    (accepted (bytes (with_gap 2 (sorry_in_column6 ++ drawn_in 7 (step AlphaEquivalent 1 1)))))
    ∷ drawing (with_gap 1 sorry_in_column6) (restate (proposition 1 7) 125) (refuse 16 0)
    ∷ drawing (with_gap 1 sorry_in_column6) (restate (proposition 2 7) 0) (refuse 25 0)
    ∷ drawing (with_gap 1 sorry_in_column6) (restate (proposition 3 7) 126) (refuse 23 0)
    ∷ drawing (with_gap 1 sorry_in_column6) (restate (record { kind = 0; first = 1; second = 1; third = 0; column = 7 }) 126) (refuse 23 0)
    ∷ drawing (with_gap 1 sorry_in_column6) (restate (record { kind = 2; first = 1; second = 0; third = 0; column = 7 }) 126) (refuse 23 0)
    ∷ drawing (with_gap 1 sorry_in_column6) (restate (proposition 1 4096) 126) (refuse 23 0)
    ∷ drawing (judged []) (restate (judgement 2 5) 72)
    (accepted (bytes (judged ((encode_rule AlphaEquivalent 1 no_identifier no_identifier ++ judgement_bytes 2 5) ∷ []))))
    ∷ drawing (judged []) (restate (judgement 2 6) 72) (refuse 25 0)
    ∷ drawing (judged []) (restate (proposition 0 0) 72) (refuse 25 0)
    ∷ drawing (sheet ("P" ∷ "x" ∷ []) (Atom 0 (Uninstantiated 1 ∷ []) ∷ []) 0 (step Sorry 0 0 ∷ [])) (restate (proposition 0 0) 99) (refuse 19 0)
    ∷ drawing (smallest ++ (0 ∷ [])) (restate (proposition 9 0) 99) (refuse 3 0)
    ∷ []

-- Ticket 13, exercises for a whole term.

-- the code of a proposition
unfoldable pub sets : Prop ℕ → Outcome Answer
sets p = accepted (bytes (encode p))

-- the zero-place atom of a name
unfoldable pub named : ℕ → Prop ℕ
named a = Atom a []

-- Two names and one connective, and no names and two connectives: the leaves, then by root, by the left part's size, by the left
-- part, by the right part. An atom takes 4 bytes. No names leave ⊤ and ⊥; a word such as `sorry` is a name.
unfoldable pub exercise_drawings : List Drawing
exercise_drawings =
    drawing (utf8 "A\nB") (exercise 1 0 1) (sets True)
    ∷ drawing (utf8 "A\nB") (exercise 1 1 1) (sets False)
    ∷ drawing (utf8 "A\nB") (exercise 1 2 4) (sets (named 0))
    ∷ drawing (utf8 "A\nB") (exercise 1 3 4) (sets (named 1))
    ∷ drawing (utf8 "A\nB") (exercise 1 5 3) (sets (And True False))
    ∷ drawing (utf8 "A\nB") (exercise 1 8 3) (sets (And False True))
    ∷ drawing (utf8 "A\nB") (exercise 1 20 3) (sets (Or True True))
    ∷ drawing (utf8 "A\nB") (exercise 1 36 3) (sets (Impl True True))
    ∷ drawing (utf8 "A\nB") (exercise 1 51 9) (sets (Impl (named 1) (named 1)))
    ∷ drawing (utf8 "A\nB") (exercise 1 51 8) (refuse 16 0)
    ∷ drawing (utf8 "A\nB") (exercise 1 52 9) (refuse 30 0)
    ∷ drawing [] (exercise 2 14 5) (sets (And True (And True True)))
    ∷ drawing [] (exercise 2 37 5) (sets (And False (Impl False False)))
    ∷ drawing [] (exercise 2 38 5) (sets (And (And True True) True))
    ∷ drawing [] (exercise 2 157 5) (sets (Impl (Impl False False) False))
    ∷ drawing [] (exercise 2 158 5) (refuse 30 0)
    ∷ drawing [] (exercise 0 1 1) (sets False)
    ∷ drawing [] (exercise 0 2 0) (refuse 30 0)
    ∷ drawing (utf8 "sorry") (exercise 0 2 4) (sets (named 0))
    ∷ drawing (utf8 "A23456789012345678901234567890ab") (exercise 0 2 4) (sets (named 0))
    ∷ drawing (utf8 "A23456789012345678901234567890abc") (exercise 0 2 4) (refuse 29 0)
    ∷ drawing (utf8 "A\nB\nC") (exercise 0 4 4) (sets (named 2))
    ∷ drawing (utf8 "A\nB\nC\nD") (exercise 0 0 1) (refuse 29 0)
    ∷ drawing (utf8 "A\nB\nA") (exercise 0 0 1) (refuse 29 0)
    ∷ drawing (utf8 "A\n") (exercise 0 0 1) (refuse 29 0)
    ∷ drawing (utf8 "2A") (exercise 0 0 1) (refuse 29 0)
    ∷ drawing [] (exercise 4 9999 0) (refuse 29 0)
    ∷ []

-- Ticket 14, find a name at once.

-- TrueIntro below names that it does not use
unfoldable pub naming : List String → List ℕ
naming names = sheet names (True ∷ []) 0 (step TrueIntro 0 0 ∷ [])

-- fib and f_ha start at slot 1,023, a_a at 0, Aa and BB at 64, A at 65, B at 66; the second Aa is number 6
unfoldable pub seven_names : List ℕ
seven_names = naming ("fib" ∷ "fHa" ∷ "aA" ∷ "Aa" ∷ "BB" ∷ "A" ∷ "Aa" ∷ [])

-- so f_ha goes round the end, a_a, BB and A step over taken slots, and the second Aa does not enter
unfoldable pub six_slots : List ℕ
six_slots =
    let f_ha = set (set (replicate slot_count free) 1023 0) 0 1 in
    set (set (set (set f_ha 1 2) 64 3) 65 4) 66 5

unfoldable pub finds : ℕ → Outcome Answer
finds i = accepted (found (Some i))

unfoldable pub finds_none : Outcome Answer
finds_none = accepted (found None)

-- A name that refusal 5 turns away has no index, and is found all the same where slots have it: searching tries 1 to 3.
unfoldable pub indexes : List Drawing
indexes =
    drawing seven_names name_index (lists six_slots)
    ∷ drawing seven_names (find_name "fHa") (finds 1)
    ∷ drawing seven_names (find_name "aA") (finds 2)
    ∷ drawing seven_names (find_name "Aa") (finds 3)
    ∷ drawing seven_names (find_name "BB") (finds 4)
    ∷ drawing seven_names (find_name "A") (finds 5)
    ∷ drawing seven_names (find_name "B") finds_none
    ∷ drawing seven_names (find_name "ioe") finds_none
    ∷ drawing seven_names (find_name "") finds_none
    ∷ drawing smallest name_index (lists (replicate slot_count free))
    ∷ drawing smallest (find_name "A") finds_none
    ∷ drawing (naming ("2A" ∷ [])) name_index (refuse 5 0)
    ∷ drawing (naming ("2A" ∷ [])) (find_name "2A") (finds 0)
    ∷ drawing (smallest ++ (0 ∷ [])) name_index (refuse 3 0)
    ∷ drawing (smallest ++ (0 ∷ [])) (find_name "A") (refuse 3 0)
    ∷ []

unfoldable pub asked : Drawing → Outcome Answer
asked d = ask d.question d.sheet

unfoldable pub expected : Drawing → Outcome Answer
expected d = d.answer
