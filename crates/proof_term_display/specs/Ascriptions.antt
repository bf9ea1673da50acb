-- An ascription as the text of its body, in brackets or not, and what stands after it.
use Rattle.std.specs.Prelude.{ℕ, ◌<◌, ◌≡◌, Bool, true, false, List, [], ◌∷◌, ◌++◌, Option, None, Some}
use Rattle.definitions.specs.declared.Style.{Style}
use Rattle.definitions.specs.Utf8.{utf8}
use Rattle.definitions.specs.Name.{Name}
use Rattle.definitions.specs.Prop.{Prop}
use Rattle.definitions.specs.Display.{ascribed_by}
use Rattle.proof_term.specs.Records.{field_at}
use Rattle.vocabulary.specs.declared.Vocabulary.{Vocabulary}
use Rattle.proof_term_display.specs.Brackets.{is_bracketed, form_at}
use Rattle.proof_term_display.specs.Item.{label_text}

-- a bracket, if there is one
unfoldable pub bracket : Bool → ℕ → List ℕ
bracket true b = b ∷ []
bracket false b = []

-- the body of record n, if that is the ascription of an earlier record
pub data AscribedBody (records : List ℕ) (n : ℕ) : Option ℕ → Type 0 where
  no_ascription : AscribedBody records n None
  body_of : field_at records n 0 ≡ 11 → field_at records n 1 < n → AscribedBody records n (Some (field_at records n 1))

-- what stands after the body of an ascription, and after no other record
unfoldable pub after_body : List ℕ → Vocabulary → List ℕ → ℕ → Bool → List ℕ
after_body bytes v records n false = []
after_body bytes v records n true = utf8 ": " ++ label_text bytes v records n

-- whether the body is bracketed, if there is one
unfoldable pub body_bracketed : (ℕ → Name) → (ℕ → Prop ℕ) → List ℕ → Option ℕ → Style → Bool
body_bracketed f props records None s = false
body_bracketed f props records (Some body) s = is_bracketed ascribed_by s (form_at f props records body)
