-- The text: declarations, then the term (source document 005). Document 01, "Text"; document 02, tickets 3
-- and 8, for the versions.
use Rattle.std.specs.Prelude.{ℕ, zero, suc, ◌+◌, ◌/◌, ◌%◌, Bool, false, ◌&&◌, ◌||◌, cond, List, [], ◌∷◌, ◌++◌, map, eqb, ltb}
use Rattle.definitions.specs.declared.Style.{Style}
use Rattle.definitions.specs.declared.Version.{Version}
use Rattle.definitions.specs.declared.Version.TheVariants.{First, Second, Third}
use Rattle.definitions.specs.declared.TermList.{TermList}
use Rattle.definitions.specs.declared.TermList.TheVariants.{Atoms, Datatypes}
use Rattle.definitions.specs.Utf8.{utf8}
use Rattle.std.specs.declared.cmp.Ordering.{Ordering}
use Rattle.definitions.specs.Name.{Name, eq_name, compare_number, or_else, compare_name}
use Rattle.definitions.specs.Sorting.{sort}
use Rattle.definitions.specs.Prop.{Prop, AtomUse, get_atoms, get_datatypes}
use Rattle.definitions.specs.Term.{ProofTerm, atom_list, datatype_list}
use Rattle.definitions.specs.Display.{display_term}

-- the last digit of a number
unfoldable pub last_digit : ℕ → List ℕ
last_digit n = (48 + n % 10) ∷ []

-- the digits of a number of at most so many digits
unfoldable pub digits : ℕ → ℕ → List ℕ
digits zero n = []
digits (suc most) n =
    let before = digits most (n / 10) in
    cond (ltb n 10) (last_digit n) (before ++ last_digit n)

-- a number in decimal, without leading zeros: n has at most n + 1 digits
unfoldable pub decimal : ℕ → List ℕ
decimal n = digits (suc n) n

module _ {A : Type 0} (same : A → A → Bool) where
  unfoldable pub occurs : A → List A → Bool
  occurs a [] = false
  occurs a (b ∷ bs) = same a b || occurs a bs

  -- those that stand neither in `seen` nor further left
  unfoldable pub firsts_after : List A → List A → List A
  firsts_after seen [] = []
  firsts_after seen (a ∷ rest) = cond (occurs a seen) (firsts_after seen rest) (a ∷ firsts_after (a ∷ seen) rest)

  -- first occurrences only
  unfoldable pub firsts : List A → List A
  firsts l = firsts_after [] l

-- by name bytes and count
unfoldable pub eq_atom_use : AtomUse Name → AtomUse Name → Bool
eq_atom_use a b = eq_name a.name b.name && eqb a.count b.count

-- by name bytes, then by count
unfoldable pub compare_atom_use : AtomUse Name → AtomUse Name → Ordering
compare_atom_use a b = or_else (compare_name a.name b.name) (compare_number a.count b.count)

-- the declarations in a version's order: as they are first met, in version 3 sorted
unfoldable pub arranged : {A : Type 0} → (A → A → Ordering) → Version → List A → List A
arranged compare First l = l
arranged compare Second l = l
arranged compare Third l = sort compare l

-- `atom P;` or `atom P(2);`
unfoldable pub atom_declaration : AtomUse Name → List ℕ
atom_declaration a =
    utf8 "atom " ++ (a.name ++ (cond (eqb a.count 0) [] (utf8 "(" ++ (decimal a.count ++ utf8 ")")) ++ utf8 ";"))

-- `datatype T;`
unfoldable pub datatype_declaration : Name → List ℕ
datatype_declaration t = utf8 "datatype " ++ (t ++ utf8 ";")

unfoldable pub following_lines : List (List ℕ) → List ℕ
following_lines [] = []
following_lines (l ∷ ls) = utf8 "\n" ++ (l ++ following_lines ls)

-- joined by a newline
unfoldable pub join_lines : List (List ℕ) → List ℕ
join_lines [] = []
join_lines (l ∷ ls) = l ++ following_lines ls

unfoldable pub atom_declarations : Version → List (AtomUse Name) → List ℕ
atom_declarations v uses = join_lines (map atom_declaration (arranged compare_atom_use v (firsts eq_atom_use uses)))

unfoldable pub datatype_declarations : Version → List Name → List ℕ
datatype_declarations v ts = join_lines (map datatype_declaration (arranged compare_name v (firsts eq_name ts)))

-- the declarations of a list of the term and then of the goal, in a version's order
unfoldable pub declarations : Version → TermList → ProofTerm Name → Prop Name → List ℕ
declarations v Atoms t goal = atom_declarations v (atom_list t ++ get_atoms goal)
declarations v (Datatypes listed) t goal = datatype_declarations v (datatype_list listed t ++ get_datatypes goal)

-- whose declarations come first: in version 1 the atoms', in versions 2 and 3 the datatypes'
unfoldable pub first_list : Version → TermList
first_list First = Atoms
first_list Second = Datatypes Second
first_list Third = Datatypes Third

-- and whose come second
unfoldable pub second_list : Version → TermList
second_list First = Datatypes First
second_list Second = Atoms
second_list Third = Atoms

-- what stands before the term
unfoldable pub heading : Version → ProofTerm Name → Prop Name → List ℕ
heading v t goal = declarations v (first_list v) t goal ++ (utf8 "\n" ++ (declarations v (second_list v) t goal ++ utf8 "\n\n"))

-- the text of a term under a goal
unfoldable pub text : Version → Style → ProofTerm Name → Prop Name → List ℕ
text v s t goal = heading v t goal ++ display_term s t
