-- An index that is built over the vocabulary of an accepted sheet is that of its names.
use Prim.Native.Nat.{ℕ, ◌≤◌}
use mathlib.Core.Path.{◌≡◌, ap, ap₂, ◌∙◌}
use mathlib.Core.List.{List}
use Rattle.definitions.specs.Sheet.{name_limit}
use Rattle.definitions.specs.NameIndex.{index, index_of}
use Rattle.vocabulary.specs.declared.Vocabulary.{Vocabulary}
use Rattle.vocabulary.specs.Vocabulary.{name_in, Within}
use Rattle.sheet.specs.declared.header.Sheet.{Sheet}
use Rattle.sheet.specs.Header.{header_of, vocabulary_of}
use Rattle.sheet.proofs.Admitted.{AcceptedSheet, its_header}
use Rattle.sheet.proofs.NamesAndCode.{count_is, names_are, within}

module _ {s : List ℕ} {h : Sheet} (a : AcceptedSheet s h) {v : Vocabulary} (is : v ≡ vocabulary_of h) where
  pub vocabulary-within : Within s v
  vocabulary-within = rw is (within (its_header a))

  pub few_names : v.name_count ≤ name_limit
  unfolding header_of
  few_names = rw (is, count_is (its_header a)) a.sheet.in_range.names

  pub built : {slots : List ℕ} → slots ≡ index (name_in s v) v.name_count → slots ≡ index_of s
  unfolding index_of
  built e =
      let has = its_header a in
      e ∙ ap₂ index (ap (name_in s) is ∙ names_are has) (ap (λ w. w.name_count) is ∙ count_is has)
