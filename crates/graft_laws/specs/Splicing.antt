-- Document 02, ticket 11, its law: where the walk reaches a step, a term with a part replaced, and the term and the labels of a
-- merged sheet.
use Rattle.std.specs.Prelude.{ℕ, suc, ◌≡◌, cond, List, [], ◌∷◌, ◌++◌, get_or, set, eqb, None, Option, Some}
use Rattle.definitions.specs.Name.{Name}
use Rattle.definitions.specs.Outcome.{accepted}
use Rattle.definitions.specs.Sheet.{name_of}
use Rattle.definitions.specs.Tree as tree
use Rattle.definitions.specs.Tree.{ProofTreeRule, AndIntro, AndElimFst, AndElimSnd, TrueIntro, ImplIntro, ImplElim, OrIntroFst, OrIntroSnd, OrElim, FalsumElim, ForAllIntro, ForAllElim, ExistsIntro, ExistsElim, AlphaEquivalent, ProofTreeConclusion, PropIsTrue, TypeJudgement, ProofTree, over, Premisses, none, ◌and◌, rename_tree, root_of}
use Rattle.definitions.specs.Term as term
use Rattle.definitions.specs.Term.{Label, proposition, ProofTerm, Pair, Named, Function, Application, LetIn, Case, TypeAscription, Unit, of_labels}
use Rattle.definitions.specs.Export.{Place, checking, inferring, places, export}
use Rattle.definitions.specs.Answers.{named_conclusion}

-- where the walk reaches a step: its place, and its position in the bare term
pub record Spot : Type 0 where
  pub place : Place
  -- the numbers of the parts on the way down, each from 0
  pub position : List ℕ

-- AlphaEquivalent gives its premiss's term, so it is no part on the way
unfoldable pub below : ProofTreeRule → ℕ → List ℕ → List ℕ
below AndIntro i p = i ∷ p
below AndElimFst i p = i ∷ p
below AndElimSnd i p = i ∷ p
below TrueIntro i p = i ∷ p
below ImplIntro i p = i ∷ p
below ImplElim i p = i ∷ p
below tree.Ident i p = i ∷ p
below OrIntroFst i p = i ∷ p
below OrIntroSnd i p = i ∷ p
below OrElim i p = i ∷ p
below FalsumElim i p = i ∷ p
below ForAllIntro i p = i ∷ p
below ForAllElim i p = i ∷ p
below ExistsIntro i p = i ∷ p
below ExistsElim i p = i ∷ p
below tree.Sorry i p = i ∷ p
below AlphaEquivalent i p = p

-- the spot below premiss i of a step of a rule, if there is one; else what the later premisses give
unfoldable pub spot_below : ProofTreeRule → ℕ → Option Spot → Option Spot → Option Spot
spot_below r i None later = later
spot_below r i (Some s) later = Some (record { place = s.place; position = below r i s.position })

-- where the walk reaches step k of a tree in a place, if it does: premisses that are not read are not reached
module _ {N : Type 0} (k : ℕ) where
  unfoldable mutual
    pub reached : ProofTree N → Place → Option Spot
    reached (over z ps) m =
        cond (eqb z.number k) (Some (record { place = m; position = [] })) (reached_among z.rule 0 ps (places z.rule m))

    -- among the premisses of a step of a rule, from number i on
    pub reached_among : ProofTreeRule → ℕ → Premisses N → List Place → Option Spot
    reached_among r i none ms = None
    reached_among r i (t and ps) [] = None
    reached_among r i (t and ps) (m ∷ ms) = spot_below r i (reached t m) (reached_among r (suc i) ps ms)

module _ {N : Type 0} where
  -- a term without its ascriptions and its functions' labels
  unfoldable pub bare : ProofTerm N → ProofTerm N
  bare (term.Ident x) = term.Ident x
  bare (Pair a b) = Pair (bare a) (bare b)
  bare (Named f a) = Named f (bare a)
  bare (Function x l a) = Function x None (bare a)
  bare (Application a b) = Application (bare a) (bare b)
  bare (LetIn x y a b) = LetIn x y (bare a) (bare b)
  bare (Case a x b y c) = Case (bare a) x (bare b) y (bare c)
  bare (TypeAscription a l) = bare a
  bare Unit = Unit
  bare term.Sorry = term.Sorry

  -- the labels of a term, a term's parts before its own
  unfoldable pub labels : ProofTerm N → List (Label N)
  labels t = of_labels (λ l. l ∷ []) t

  -- the parts of a term, left to right
  unfoldable pub parts : ProofTerm N → List (ProofTerm N)
  parts (term.Ident x) = []
  parts (Pair a b) = a ∷ b ∷ []
  parts (Named f a) = a ∷ []
  parts (Function x l a) = a ∷ []
  parts (Application a b) = a ∷ b ∷ []
  parts (LetIn x y a b) = a ∷ b ∷ []
  parts (Case a x b y c) = a ∷ b ∷ c ∷ []
  parts (TypeAscription a l) = a ∷ []
  parts Unit = []
  parts term.Sorry = []

  -- the part of a number among some, or Unit
  unfoldable pub part : List (ProofTerm N) → ℕ → ProofTerm N
  part ts i = get_or ts i Unit

  -- the same term over other parts
  unfoldable pub with_parts : ProofTerm N → List (ProofTerm N) → ProofTerm N
  with_parts (term.Ident x) ts = term.Ident x
  with_parts (Pair a b) ts = Pair (part ts 0) (part ts 1)
  with_parts (Named f a) ts = Named f (part ts 0)
  with_parts (Function x l a) ts = Function x l (part ts 0)
  with_parts (Application a b) ts = Application (part ts 0) (part ts 1)
  with_parts (LetIn x y a b) ts = LetIn x y (part ts 0) (part ts 1)
  with_parts (Case a x b y c) ts = Case (part ts 0) x (part ts 1) y (part ts 2)
  with_parts (TypeAscription a l) ts = TypeAscription (part ts 0) l
  with_parts Unit ts = Unit
  with_parts term.Sorry ts = term.Sorry

  -- the term with w in place of the part at a position
  unfoldable pub replace_at : List ℕ → ProofTerm N → ProofTerm N → ProofTerm N
  replace_at [] w u = w
  replace_at (i ∷ p) w u = with_parts u (set (parts u) i (replace_at p w (part (parts u) i)))

  -- a sorry's own labels: its conclusion in an inferring place, where that is a proposition, and none in a checking one
  unfoldable pub own_labels : Place → ProofTreeConclusion N → List (Label N)
  own_labels checking c = []
  own_labels inferring (PropIsTrue p) = proposition p ∷ []
  own_labels inferring (TypeJudgement x t) = []

-- The law: the merged term v is the host's term u with the donor's, as exported for the place of the host's step k, in its
-- position; the labels are the host's, less that sorry's own, plus the donor's.
pub record Spliced (h d : List ℕ) (k : ℕ) (u v : ProofTerm Name) (spot : Spot) : Type 0 where
  pub donor_term : ProofTerm Name
  pub is_donor : export (rename_tree (name_of d) (root_of d)) spot.place ≡ accepted donor_term
  pub bare_term : bare v ≡ replace_at spot.position (bare donor_term) (bare u)
  pub before : List (Label Name)
  pub after : List (Label Name)
  pub host_labels : labels u ≡ before ++ (own_labels spot.place (named_conclusion h k) ++ after)
  pub merged_labels : labels v ≡ before ++ (labels donor_term ++ after)
