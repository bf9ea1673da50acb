-- Ticket 2: what reading the strict text of an exported term gives back.
use Rattle.std.specs.Prelude.{ℕ, ◌≤◌, ◌≡◌, true, List, length}
use Rattle.definitions.specs.declared.Style.TheVariants.{Strict}
use Rattle.definitions.specs.Outcome.{accepted}
use Rattle.definitions.specs.Name.{Name}
use Rattle.definitions.specs.Term.{ProofTerm}
use Rattle.definitions.specs.Display.{display_term}
use Rattle.definitions.specs.Answers.{named_term}
use Rattle.definitions.specs.TermText.{term_text_limit, all_admitted, without_ids, Restorable}
use Rattle.definitions.specs.TermReader.{read_answer}

-- The strict text of a sheet's term restores that term with its ids set to 0, provided the text is no longer than is read, the listed
-- names are admitted, and the term is restorable. That the text is no second term's, and that the term is within the limits, are laws.
unfoldable pub Restores : List ℕ → List Name → Type 0
Restores s types =
    (t : ProofTerm Name) → named_term s ≡ accepted t → Restorable types t → length (display_term Strict t) ≤ term_text_limit
    → all_admitted types ≡ true → read_answer types (display_term Strict t) ≡ accepted (without_ids t)
