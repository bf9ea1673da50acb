-- The memory of a term that was read: what stands in it, the term that it means, and what its readers may know of it.
use Rattle.std.specs.Prelude.{ℕ, ◌+◌, ◌*◌, ◌≤◌, ◌<◌, ◌≡◌, List, [], length, get_or, take}
use Rattle.definitions.specs.declared.Style.TheVariants.{Strict}
use Rattle.definitions.specs.Outcome.{accepted}
use Rattle.definitions.specs.Collection.{In}
use Rattle.definitions.specs.Name.{Name}
use Rattle.definitions.specs.Prop.{Prop}
use Rattle.definitions.specs.Sheet.{marked}
use Rattle.definitions.specs.Term.{ProofTerm, rename_term}
use Rattle.definitions.specs.Display.{display_term}
use Rattle.definitions.specs.TermText.{node_limit, nodes, term_names}
use Rattle.definitions.specs.TermReader.{read_answer}
use Rattle.definitions.specs.TermMemory.{text_labels, labels_size, records_of, store_labels}
use Rattle.number.specs.Pairs.{NameWithin}
use Rattle.prefix_code.specs.PropAt.{prop_at, Present}
use Rattle.proof_term.specs.Records.{record_size, term_at}
use Rattle.proof_term.specs.Labels.{InOrder, LabelsFit}
use Rattle.proof_term.specs.Tally.{PartsEarlier, NodesTallied}
use Rattle.proof_term.specs.Readable.{NamesBelow}

-- records, the pairs of so many names in the text that was read, and the labels' code
pub record Memory : Type 0 where
  pub records : List ℕ
  pub text : List ℕ
  pub pairs : List ℕ
  pub count : ℕ
  pub code : List ℕ

-- the name of a number
abbrev pub name_in : Memory → ℕ → Name
name_in m number = marked m.pairs m.text number

-- the offset that a proposition label's number stands for, and the proposition whose code begins there
unfoldable pub label_offset : ℕ → ℕ
label_offset number = 2 * number

abbrev pub prop_in : Memory → ℕ → Prop ℕ
prop_in m number = prop_at m.count m.code (label_offset number)

-- the term of record n, over the numbers of its names and with its names
abbrev pub term_in : Memory → ℕ → ProofTerm ℕ
term_in m n = term_at (prop_in m) m.records n

abbrev pub meant_term : Memory → ℕ → ProofTerm Name
meant_term m n = rename_term (name_in m) (term_in m n)

-- the term's records and its labels' code are stored under these numbers of its names, the code over what stood there before
pub record Stored (t : ProofTerm Name) (number : Name → ℕ) (before : List ℕ) (m : Memory) : Type 0 where
  pub records_are : take (record_size * nodes t) m.records ≡ records_of number 0 0 t
  pub code_is : m.code ≡ store_labels number 0 (text_labels t) before
  pub room : labels_size (text_labels t) ≤ length before

-- each name of the term has the number of a pair that marks it
pub record Numbered (t : ProofTerm Name) (number : Name → ℕ) (m : Memory) : Type 0 where
  pub below : (x : Name) → In x (term_names t) → number x < m.count
  pub named : (x : Name) → In x (term_names t) → name_in m (number x) ≡ x
  pub within : (i : ℕ) → i < m.count → NameWithin m.pairs m.text i

-- the pairs mark these names, one after the other
pub record MarksAll (names : List Name) (m : Memory) : Type 0 where
  pub counted : m.count ≡ length names
  pub marks : (i : ℕ) → i < length names → name_in m i ≡ get_or names i []
  pub within : (i : ℕ) → i < length names → NameWithin m.pairs m.text i

-- record n of the memory holds the term that was read with these datatype names: its strict text is the text, its names are numbers of
-- pairs within the text, its records stand in its order over earlier parts, each node keeps its label count, and the labels fit
pub record ReadTerm (types : List Name) (m : Memory) (n : ℕ) : Type 0 where
  pub is_term : read_answer types m.text ≡ accepted (meant_term m n)
  pub shown : display_term Strict (meant_term m n) ≡ m.text
  pub few : n < node_limit
  pub held : record_size * (n + 1) ≤ length m.records
  pub within : (i : ℕ) → i < m.count → NameWithin m.pairs m.text i
  pub below : NamesBelow m.count (term_in m n)
  pub in_order : InOrder m.records n
  pub parts : (k : ℕ) → k ≤ n → PartsEarlier m.records k
  pub tallied : NodesTallied m.records n
  pub labels : LabelsFit m.count (λ number. Present m.count m.code (label_offset number)) m.records n
