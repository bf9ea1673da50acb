-- Document 02, ticket 11: drawings of grafts, which tell right from tempting and wrong.
use Rattle.std.specs.Prelude.{ℕ, ◌-◌, List, [], ◌∷◌, length}
use Rattle.definitions.specs.declared.Whose.{Whose}
use Rattle.definitions.specs.declared.Whose.TheVariants.{Neither, Host, Donor}
use Rattle.definitions.specs.Prop.{True, And, Impl, ForAll, Atom, Uninstantiated}
use Rattle.definitions.specs.Tree.{TrueIntro, Ident, ImplIntro, AndIntro, Sorry}
use Rattle.definitions.specs.Answers.{board_room}
use Rattle.definitions.specs.Drawings.{letter, of_object, step, step_naming, drawn_in, sheet, sorries}
use Rattle.definitions.specs.Graft.{Grafted, refused_by, merged, graft_answer}

pub record GraftDrawing : Type 0 where
  pub host : List ℕ
  pub donor : List ℕ
  pub step : ℕ
  pub room : ℕ
  pub answer : Grafted

unfoldable pub graft_drawing : List ℕ → List ℕ → ℕ → ℕ → Grafted → GraftDrawing
graft_drawing host donor step room answer = record { host = host; donor = donor; step = step; room = room; answer = answer }

unfoldable pub refuses_as : Whose → ℕ → ℕ → Grafted
refuses_as w number place = refused_by w (record { number = number; place = place })

-- AndIntro of TrueIntro and Sorry, which concludes A ⊃ A
unfoldable pub open_host : List ℕ
open_host =
    sheet ("B" ∷ "A" ∷ []) (And True (Impl (letter 1) (letter 1)) ∷ Impl (letter 1) (letter 1) ∷ True ∷ []) 0
    (step TrueIntro 0 2 ∷ drawn_in 5 (step Sorry 0 1) ∷ step AndIntro 2 0 ∷ [])

-- ImplIntro u over Ident u: u has two numbers, and A another one than in the host
unfoldable pub identity : List ℕ
identity =
    sheet ("u" ∷ "A" ∷ "u" ∷ []) (Impl (letter 1) (letter 1) ∷ letter 1 ∷ []) 1
    (drawn_in 9 (step_naming Ident 2 0 1) ∷ step_naming ImplIntro 0 1 0 ∷ [])

-- u comes after the host's names, once; the donor's propositions after the host's; its steps in place of the sorry
unfoldable pub grafted : List ℕ
grafted =
    sheet ("B" ∷ "A" ∷ "u" ∷ [])
    (And True (Impl (letter 1) (letter 1)) ∷ Impl (letter 1) (letter 1) ∷ True ∷ Impl (letter 1) (letter 1) ∷ letter 1 ∷ []) 0
    (step TrueIntro 0 2 ∷ drawn_in 9 (step_naming Ident 2 0 4) ∷ step_naming ImplIntro 2 1 3 ∷ step AndIntro 2 0 ∷ [])

-- Sorry of ∀y:T. P(y)
unfoldable pub universal : List ℕ
universal = sheet ("y" ∷ "T" ∷ "P" ∷ []) (ForAll 0 1 (Atom 2 (Uninstantiated 0 ∷ [])) ∷ []) 0 (step Sorry 0 0 ∷ [])

-- ∀x:T. P(x) is not the same, since bound names count; the host's refusal comes before the donor's
unfoldable pub grafts : List GraftDrawing
grafts =
    graft_drawing open_host identity 1 (length grafted) (merged grafted)
    ∷ graft_drawing open_host identity 1 (length grafted - 1) (refuses_as Neither 16 0)
    ∷ graft_drawing open_host identity 0 board_room (refuses_as Neither 26 0)
    ∷ graft_drawing open_host identity 3 board_room (refuses_as Neither 26 0)
    ∷ graft_drawing open_host open_host 1 board_room (refuses_as Neither 27 0)
    ∷ graft_drawing (sorries (ForAll 2 1 (of_object 2)) True) universal 0 board_room (refuses_as Neither 27 0)
    ∷ graft_drawing [] [] 0 0 (refuses_as Host 1 0)
    ∷ graft_drawing open_host [] 0 0 (refuses_as Donor 1 0)
    ∷ []

unfoldable pub asked_graft : GraftDrawing → Grafted
asked_graft g = graft_answer g.host g.donor g.step g.room

unfoldable pub expected_graft : GraftDrawing → Grafted
expected_graft g = g.answer
