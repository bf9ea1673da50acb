-- What stands in front of a part and after it: a negation's sign, a bracket, a quantifier with its names.
use Rattle.std.specs.Prelude.{ℕ, ◌+◌, ◌*◌, ◌<◌, ◌≤◌, ◌≡◌, true, false, List, [], ◌∷◌, ◌++◌, length, drop, ltb, None, Option, MatchOption}
use Rattle.definitions.specs.Utf8.{utf8}
use Rattle.definitions.specs.Name.{Name}
use Rattle.definitions.specs.Prop.{Prop, False, Binary, Quantified, impl, Quantifier, quantifier_byte}
use Rattle.definitions.specs.Code.{Reading, yield, followed_by, ◌>>=◌, u16}
use Rattle.definitions.specs.Display.{precedence}
use Rattle.definitions.specs.TermText.{prop_names}
use Rattle.definitions.specs.TermReader.{Shown, standing, due, expect, Sign, negation, bracket, binder, name, signed}
use Rattle.definitions.proofs.Readings.{given}
use Rattle.reading_laws.proofs.TermConventions.{Gives}
use Rattle.std.proofs.lemmas.List.Edits.{sets}
use Rattle.words.specs.declared.name_table.NameTable.{NameTable}
use Rattle.words.specs.Names.{number_in}
use Rattle.words.specs.Table.{table_names, Noted}
use Rattle.prop_parts.specs.declared.Opening.{Opening}
use Rattle.prop_parts.specs.Found.{code_reach, bound_numbers, opening_sign, sign_size}
use Rattle.atom_reader.specs.declared.Place.{Place}
use Rattle.prop_frames.specs.declared.BinderRead.{BinderRead}
use Rattle.atom_reader.specs.declared.PropRead.{PropRead}
use Rattle.atom_reader.specs.Scope.{Crowded, Binds}
use Rattle.atom_reader.specs.Reading.{Begins, Measured}

-- a reading of a part that binds at least so strongly, under these bound names
abbrev pub Part : Type 0
Part = ℕ → List Name → Reading (Shown (Prop Name))

pub data Front : Type 0 where
  negated bracketed : Front
  quantified : Quantifier → Name → Name → Front

-- its sign
abbrev pub front_sign : Front → Sign
front_sign negated = negation
front_sign bracketed = bracket
front_sign (quantified q x t) = binder q

-- how strongly the part binds at least, and the names that are bound in it
unfoldable pub part_least : Front → ℕ
part_least negated = 999
part_least bracketed = 0
part_least (quantified q x t) = 0

unfoldable pub part_bound : Front → List Name → List Name
part_bound negated names = names
part_bound bracketed names = names
part_bound (quantified q x t) names = x ∷ names

unfoldable pub front_names : Front → List Name
front_names negated = []
front_names bracketed = []
front_names (quantified q x t) = x ∷ t ∷ []

-- the code before the part and after it, and their size
unfoldable pub front_code : List Name → Front → List ℕ
front_code seen negated = 4 ∷ []
front_code seen bracketed = []
front_code seen (quantified q x t) = quantifier_byte q ∷ (u16 (number_in seen x) ++ u16 (number_in seen t))

unfoldable pub back_code : Front → List ℕ
back_code negated = 1 ∷ []
back_code bracketed = []
back_code (quantified q x t) = []

unfoldable pub front_bytes : Front → ℕ
front_bytes negated = 1
front_bytes bracketed = 0
front_bytes (quantified q x t) = 5

-- the whole
unfoldable pub around : Front → Prop Name → Prop Name
around negated p = Binary impl p False
around bracketed p = p
around (quantified q x t) p = Quantified q x t p

-- what is read after the part
unfoldable pub closing : Front → Shown (Prop Name) → Reading (Shown (Prop Name))
closing negated p = due p.own (ltb (precedence p.shown) 999) (yield (standing false (Binary impl p.shown False)))
closing bracketed p = expect (utf8 ")") >>= λ u. due p.own false (yield (standing true p.shown))
closing (quantified q x t) p = due p.own false (yield (standing false (Quantified q x t p.shown)))

-- the names of a quantifier, after its sign
pub record Binder : Type 0 where
  pub object : Name
  pub datatype : Name

unfoldable pub binder_names : Reading Binder
binder_names = do
  x ← name
  _ ← expect (utf8 ":")
  t ← name
  _ ← expect (utf8 ". ")
  yield (record { object = x; datatype = t })

-- those that were read, and their numbers
pub record BinderGiven (at : ℕ) (held after : NameTable) (r : BinderRead) (b : Binder) : Type 0 where
  pub within : r.end ≤ length held.text.now
  pub reads : binder_names (drop at held.text.now) ≡ given b (drop r.end held.text.now)
  pub noted : Noted (b.object ∷ b.datatype ∷ []) held after
  pub object_is : r.object ≡ number_in (table_names after) b.object
  pub datatype_is : r.datatype ≡ number_in (table_names after) b.datatype
  pub object_below : r.object < after.count
  pub datatype_below : r.datatype < after.count
  pub from : at + 5 ≤ r.end

-- there are none, or too many
abbrev pub BinderLacks : ℕ → NameTable → Type 0
BinderLacks at held =
    Gives (binder_names (drop at held.text.now)) (λ b rest. Crowded (table_names held) (b.object ∷ b.datatype ∷ []))

-- the code of a quantifier's sign and names
unfoldable pub binder_code : ℕ → ℕ → ℕ → List ℕ
binder_code head object datatype = head ∷ (u16 object ++ u16 datatype)

-- a front begins here with this sign
pub record FrontBegins (held : NameTable) (bound : List ℕ) (p : Place) (sign : Opening) : Type 0 where
  pub begins : Begins held bound p 1 0
  pub sign_within : p.at + sign_size (opening_sign sign) ≤ length held.text.now

-- the front that was read from its sign on, and what became of the memory
pub record FrontGiven
    (g : Sign) (names : List Name) (held : NameTable) (bound code : List ℕ) (p : Place) (after : NameTable) (bound' code' : List ℕ) (r : Place) (f : Front)
    : Type 0 where
  pub within : r.at ≤ length held.text.now
  pub reads : (part : Part)
      → signed part names g (drop (p.at + sign_size g) held.text.now)
      ≡ followed_by (part (part_least f) (part_bound f names) (drop r.at held.text.now)) (closing f)
  pub sign_is : g ≡ front_sign f
  pub noted : Noted (front_names f) held after
  pub stored : code' ≡ sets code p.to (front_code (table_names after) f)
  pub to_is : r.to ≡ p.to + front_bytes f
  pub binds : Binds (part_bound f names) (table_names after) bound' r.depth
  pub depth : r.depth ≤ p.depth + 1
  pub deeper : p.depth ≤ r.depth
  pub from : p.at < r.at
  pub small : front_bytes f + 1 + 2 * p.at ≤ 2 * r.at

-- the answer of a reader of fronts; none where there is none, or too many names
pub record FrontAnswer
    (g : Sign) (names : List Name) (held : NameTable) (bound code : List ℕ) (p : Place) (after : NameTable) (bound' code' : List ℕ) (r : Option Place)
    : Type 0 where
  pub answer : MatchOption r ((part : Part)
      → Gives (signed part names g (drop (p.at + sign_size g) held.text.now)) (λ q rest. Crowded (table_names held) (prop_names q.shown)))
      (λ r. (f : Front) × FrontGiven g names held bound code p after bound' code' r f)
  pub bound_kept : bound_numbers bound' p.depth ≡ bound_numbers bound p.depth

-- a part may be closed: its end, and how large it is at most
pub record Closable (text : List ℕ) (to : ℕ) (part : PropRead) : Type 0 where
  pub within : part.end ≤ length text
  pub near : to + part.size < code_reach
  pub shallow : part.nesting < code_reach

-- what is known of a proposition around its part
unfoldable pub enclosed : PropRead → ℕ → ℕ → PropRead
enclosed part bytes strength =
    record {
      end = part.end;
      size = part.size + bytes;
      nesting = part.nesting + 1;
      strength = strength;
      bottom = false;
      own = false;
    }

-- the whole that is made of its part, and what became of the code
pub record ClosedGiven (f : Front) (q : Prop Name) (text code : List ℕ) (to : ℕ) (part : PropRead) (code' : List ℕ) (r : PropRead) : Type 0 where
  pub within : r.end ≤ length text
  pub reads : closing f (standing part.own q) (drop part.end text) ≡ given (standing r.own (around f q)) (drop r.end text)
  pub measured : Measured r (around f q)
  pub stored : code' ≡ sets code (to + part.size) (back_code f)
  pub from : part.end ≤ r.end

-- the whole, or none where the part stands in other brackets than are due
pub record Closes (f : Front) (q : Prop Name) (text code : List ℕ) (to : ℕ) (part : PropRead) (code' : List ℕ) (r : Option PropRead) : Type 0 where
  pub answer : MatchOption r (closing f (standing part.own q) (drop part.end text) ≡ None) (ClosedGiven f q text code to part code')
