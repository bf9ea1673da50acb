-- What a board prints and counts that keeps its promises. By document 01's second drawing none does that refuses all sheets, prints
-- `sorry` for all or writes nothing; by the sheet with two labels none that labels at the first inferring place and then no more.
use Prim.Native.Nat.{ℕ}
use mathlib.Core.Path.{◌≡◌, refl, ◌∙◌, ap}
use mathlib.Core.List.{List, ◌++◌}
use lib.ListN.{length, drop}
use Rattle.definitions.specs.Utf8.{utf8}
use Rattle.definitions.specs.Outcome.{accepted}
use Rattle.definitions.specs.Answers.{board_output, label_count}
use Rattle.definitions.specs.Drawings.{second, two_labels}
use Rattle.definitions.proofs.Everything.{everything}
use Rattle.std.specs.Prelude.{Result, Ok, ℕ}
use Rattle.skriduhol.specs.Located.{count_of}
use Rattle.skriduhol.specs.Board.{Prints}
use Rattle.definitions.specs.declared.Located.{Located}

-- what is handed over, once the output is known as a text
printed : {output text before after : List ℕ} {r : ℕ} → output ≡ text → Prints output before after r
    → (r ≡ length text) × (after ≡ text ++ drop (length text) before)
printed known p = let q = rw known at p in (q.size, q.memory)

second_text : board_output second ≡ utf8 "atom A;\natom B;\n\n\nfn u => inl u"
unfolding everything
second_text = refl

pub second_printed : {before after : List ℕ} {r : ℕ} → Prints (board_output second) before after r
    → (r ≡ 31) × (after ≡ utf8 "atom A;\natom B;\n\n\nfn u => inl u" ++ drop 31 before)
second_printed p = printed second_text p

two_labels_text : board_output two_labels ≡ utf8 "atom A;\n\n\nfn u => fst (inl u: A ∨ A, inr u: A ∨ A)"
unfolding everything
two_labels_text = refl

pub two_labels_printed : {before after : List ℕ} {r : ℕ} → Prints (board_output two_labels) before after r
    → (r ≡ 54) × (after ≡ utf8 "atom A;\n\n\nfn u => fst (inl u: A ∨ A, inr u: A ∨ A)" ++ drop 54 before)
two_labels_printed p = printed two_labels_text p

two_labels_lem : label_count two_labels ≡ accepted 2
unfolding everything
two_labels_lem = refl

pub two_labels_counted : {r : Result ℕ Located} → r ≡ count_of two_labels (label_count two_labels) → r ≡ Ok 2
unfolding count_of
two_labels_counted e = e ∙ ap (count_of two_labels) two_labels_lem
