-- The lines of the declarations, one more at a time, and that they are those of document 01.
use Prim.Native.Nat.{ℕ, suc, ◌+◌, ◌<◌}
use mathlib.Core.Path.{◌≡◌, refl, sym, ap, ◌∙◌}
use mathlib.Core.Bool.{Bool, true, false, cond, and-true}
use mathlib.Core.List.{List, [], ◌∷◌, ◌++◌, map, map-append, map-map, append-nil, append_assoc}
use mathlib.Core.Logic.{by_cases}
use native.Mathlib.Omega.{arith}
use native.Mathlib.Decide.{dec_lt}
use lib.ListN.{length, take}
use Rattle.std.proofs.lemmas.List.{take_more, length-take-le}
use borrow.Author.Tests.{ne_eqb}
use Rattle.definitions.specs.declared.Version.{Version}
use Rattle.definitions.specs.declared.TermList.{TermList}
use Rattle.definitions.specs.declared.TermList.TheVariants.{Atoms, Datatypes}
use Rattle.definitions.specs.Name.{Name, eq_name, compare_name}
use Rattle.definitions.specs.Prop.{AtomUse}
use Rattle.definitions.specs.Utf8.{utf8}
use Rattle.definitions.specs.Text.{occurs, firsts_after, firsts, eq_atom_use, compare_atom_use, arranged, following_lines, join_lines, atom_declarations, datatype_declarations}
use Rattle.order_laws.proofs.Datatypes.{as_use, same_arranged}
use Rattle.prop_lists.specs.Entries.{use_of, datatype_uses}
use Rattle.declarations.specs.declared.Declaration.{Declaration}
use Rattle.declarations.specs.Memory.{use_over, uses_over, use_in, declared_uses}
use Rattle.declarations.specs.Chains.{row}
use Rattle.declarations.specs.Lines.{break_before, declaration, declaration_lines}

following_more : (ls : List (List ℕ)) (l : List ℕ) → following_lines (ls ++ (l ∷ [])) ≡ following_lines ls ++ (utf8 "\n" ++ l)
unfolding following_lines
following_more [] l = rw append-nil
following_more (x ∷ ls) l = rw (following_more ls l, append_assoc x (following_lines ls) (utf8 "\n" ++ l))

-- one more line, after others
join_more : (ls : List (List ℕ)) (l : List ℕ) → 0 < length ls → join_lines (ls ++ (l ∷ [])) ≡ join_lines ls ++ (utf8 "\n" ++ l)
unfolding join_lines
join_more [] l h = absurd (omega arith)
join_more (x ∷ ls) l h = rw (following_more ls l, append_assoc x (following_lines ls) (utf8 "\n" ++ l))

length_mapped : {A B : Type 0} (g : A → B) (l : List A) → length (map g l) ≡ length l
length_mapped g [] = refl
length_mapped g (a ∷ l) = ap suc (length_mapped g l)

break_none : break_before 0 ≡ []
unfolding break_before
break_none = refl

break_more : (j : ℕ) → break_before (suc j) ≡ utf8 "\n"
unfolding break_before
break_more j = rw (ne_eqb (suc j) 0 (λ e. omega arith))

-- Of the first j of some declarations:
module _ (list : TermList) (f : ℕ → Name) (declared : List Declaration) where
  pub lines_none : declaration_lines list (declared_uses f (take 0 declared)) ≡ []
  unfolding declaration_lines join_lines
  lines_none = refl

  lines_with : (first : List Declaration) (d : Declaration) → declaration_lines list (declared_uses f (first ++ (d ∷ [])))
      ≡ declaration_lines list (declared_uses f first) ++ (break_before (length first) ++ declaration list (use_in f d))
  unfolding declaration_lines join_lines following_lines
  lines_with [] d = rw break_none (append-nil _)
  lines_with (e ∷ first) d =
      rw (break_more (length first), map-append (use_in f) first (d ∷ []), map-append (declaration list) (declared_uses f first) (use_in f d ∷ []))
      (join_more (map (declaration list) (declared_uses f (e ∷ first))) (declaration list (use_in f d)) (omega arith))

  pub lines_more : (j : ℕ) → j < length declared → declaration_lines list (declared_uses f (take (j + 1) declared))
      ≡ declaration_lines list (declared_uses f (take j declared)) ++ (break_before j ++ declaration list (use_in f (row declared j)))
  lines_more j h =
      let long : length (take j declared) ≡ j = length-take-le j declared (omega arith) in
      ap (λ l. declaration_lines list (declared_uses f l)) (take_more declared j (record { name = 0; count = 0 }) h)
      ∙ (lines_with (take j declared) (row declared j) ∙ ap (λ n. declaration_lines list (declared_uses f (take j declared)) ++ (break_before n ++ declaration list (use_in f (row declared j)))) long)

-- the lines of atoms that stand in a version's order are the version's
pub atoms_declared : (v : Version) (uses : List (AtomUse Name))
    → declaration_lines Atoms (arranged compare_atom_use v (firsts eq_atom_use uses)) ≡ atom_declarations v uses
unfolding declaration_lines declaration atom_declarations
atoms_declared v uses = refl

same_occurs : (n : Name) (seen : List Name) → occurs eq_atom_use (as_use n) (map as_use seen) ≡ occurs eq_name n seen
unfolding occurs eq_atom_use
same_occurs n [] = refl
same_occurs n (m ∷ seen) = rw (and-true (eq_name n m), same_occurs n seen)

same_firsts : (seen ns : List Name) → firsts_after eq_atom_use (map as_use seen) (map as_use ns) ≡ map as_use (firsts_after eq_name seen ns)
unfolding firsts_after
same_firsts seen [] = refl
same_firsts seen (n ∷ ns) = rw (same_occurs n seen) (go (occurs eq_name n seen) (same_firsts seen ns) (same_firsts (n ∷ seen) ns))
  where
    go : (b : Bool) → firsts_after eq_atom_use (map as_use seen) (map as_use ns) ≡ map as_use (firsts_after eq_name seen ns)
        → firsts_after eq_atom_use (as_use n ∷ map as_use seen) (map as_use ns) ≡ map as_use (firsts_after eq_name (n ∷ seen) ns)
        → cond b (firsts_after eq_atom_use (map as_use seen) (map as_use ns)) (as_use n ∷ firsts_after eq_atom_use (as_use n ∷ map as_use seen) (map as_use ns))
        ≡ map as_use (cond b (firsts_after eq_name seen ns) (n ∷ firsts_after eq_name (n ∷ seen) ns))
    go true known new = known
    go false known new = ap (λ us. as_use n ∷ us) new

-- so are those of datatypes, which are uses with the count 0
pub datatypes_declared : (v listed : Version) (ts : List Name)
    → declaration_lines (Datatypes listed) (arranged compare_atom_use v (firsts eq_atom_use (map as_use ts))) ≡ datatype_declarations v ts
unfolding declaration_lines declaration datatype_declarations firsts
datatypes_declared v listed ts =
    let first : firsts eq_atom_use (map as_use ts) ≡ map as_use (firsts eq_name ts) = same_firsts [] ts in
    ap (λ us. join_lines (map (declaration (Datatypes listed)) us)) (ap (arranged compare_atom_use v) first ∙ same_arranged v (firsts eq_name ts))
    ∙ ap join_lines (map-map (declaration (Datatypes listed)) as_use (arranged compare_name v (firsts eq_name ts)))

pub datatypes_over : (f : ℕ → Name) (ts : List ℕ) → uses_over f (datatype_uses ts) ≡ map as_use (map f ts)
datatypes_over f ts = map-map (use_over f) (λ t. use_of t 0) ts ∙ sym (map-map as_use f ts)

-- the counts of some first declarations fit, and that of the next
pub counted_more : (declared : List Declaration) (j : ℕ) → ((i : ℕ) → i < j → (row declared i).count < 65536) → (row declared j).count < 65536
    → (i : ℕ) → i < j + 1 → (row declared i).count < 65536
counted_more declared j before this i h = by_cases (dec_lt i j)
    (λ l. before i l)
    (λ l. let last : i ≡ j = omega arith in rw last this)
