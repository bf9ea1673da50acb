-- The lines of few declarations are short, so that a counter counts all of them.
use Prim.Native.Nat.{ℕ, suc, ◌*◌, ◌≤◌, ◌<◌}
use mathlib.Core.List.{List, [], ◌∷◌, ◌++◌}
use mathlib.Core.Logic.{by_cases}
use native.Mathlib.Omega.{arith}
use native.Mathlib.Decide.{ℕ_discrete}
use lib.ListN.{length, length-append}
use borrow.Author.Tests.{eq-eqb, ne_eqb}
use Rattle.definitions.specs.declared.TermList.{TermList}
use Rattle.definitions.specs.declared.TermList.TheVariants.{Atoms, Datatypes}
use Rattle.definitions.specs.Name.{Name}
use Rattle.definitions.specs.Prop.{AtomUse}
use Rattle.definitions.specs.Text.{decimal, following_lines, atom_declaration, datatype_declaration}
use Rattle.output.proofs.Digits.{least_digits}
use Rattle.declarations.specs.declared.Declaration.{Declaration}
use Rattle.declarations.specs.Memory.{use_in, declared_uses, Counted}
use Rattle.declarations.specs.Lines.{count_text, declaration, declaration_lines}
use Rattle.declaration_length.proofs.Sorted.{bytes, one_more, joined}

-- a number of 16 bits has five digits at the most
pub few_digits : (n : ℕ) → n < 65536 → length (decimal n) ≤ 5
few_digits n h = (least_digits n).least 5 (omega arith) (omega arith)

-- and two brackets beside them
few_counted : (n : ℕ) → n < 65536 → length (count_text n) ≤ 7
unfolding count_text
few_counted n h = by_cases (ℕ_discrete n 0)
    (λ e. rw (eq-eqb n 0 e) (omega arith))
    (λ e. rw (ne_eqb n 0 e) (omega (arith, length-append (decimal n) (41 ∷ []), few_digits n h)))

-- the line of a use with such a name and such a count
line_short : (list : TermList) (u : AtomUse Name) → length u.name ≤ 65535 → u.count < 65536 → length (declaration list u) < 65600
unfolding declaration atom_declaration datatype_declaration count_text
line_short Atoms u named counted =
    omega (arith, length-append u.name (count_text u.count ++ (59 ∷ [])), length-append (count_text u.count) (59 ∷ []), few_counted u.count counted)
line_short (Datatypes v) u named counted = omega (arith, length-append u.name (59 ∷ []))

-- Over the bytes of names:
module _ (f : ℕ → Name) (short : (n : ℕ) → length (f n) ≤ 65535) (list : TermList) where
  -- so many declarations have so many bytes, each line with its newline
  following_short : (declared : List Declaration) → Counted declared → bytes (declaration list) (declared_uses f declared) ≤ 65600 * length declared
  unfolding following_lines
  following_short [] counted = omega arith
  following_short (d ∷ declared) counted =
      omega (
        arith,
        one_more (declaration list) (use_in f d) (declared_uses f declared),
        line_short list (use_in f d) (short d.name) (counted 0 (omega arith)),
        following_short declared (λ j h. counted (suc j) (omega arith)),
      )

  pub lines_short : (declared : List Declaration) → Counted declared → length (declaration_lines list (declared_uses f declared)) ≤ 65600 * length declared
  unfolding declaration_lines
  lines_short declared counted =
      omega (arith, joined (declaration list) (declared_uses f declared), following_short declared counted)
