-- Document 02, ticket 11: when sound sheets merge soundly. The names of the hypotheses in scope at a step, and of those that the
-- steps of a tree add.
use Rattle.std.specs.Prelude.{ℕ, cond, List, [], ◌∷◌, ◌++◌, get_or, drop, eqb}
use Rattle.definitions.specs.Collection.{In}
use Rattle.definitions.specs.Name.{Name}
use Rattle.definitions.specs.Sheet.{name_of}
use Rattle.definitions.specs.Tree.{ProofTreeRule, AndIntro, AndElimFst, AndElimSnd, TrueIntro, ImplIntro, ImplElim, Ident, OrIntroFst, OrIntroSnd, OrElim, FalsumElim, ForAllIntro, ForAllElim, ExistsIntro, ExistsElim, Sorry, AlphaEquivalent, Step, ProofTree, over, Premisses, none, ◌and◌, rename_tree, root_of}
use Rattle.graft_laws.specs.Levels.{occurrences}

-- what a rule of sound steps adds over each of its premisses: ImplIntro its first identifier over its premiss, OrElim its first
-- over the second premiss and its second over the third
unfoldable pub added_by : ProofTreeRule → Name → Name → List (List Name)
added_by AndIntro x y = []
added_by AndElimFst x y = []
added_by AndElimSnd x y = []
added_by TrueIntro x y = []
added_by ImplIntro x y = (x ∷ []) ∷ []
added_by ImplElim x y = []
added_by Ident x y = []
added_by OrIntroFst x y = []
added_by OrIntroSnd x y = []
added_by OrElim x y = [] ∷ (x ∷ []) ∷ (y ∷ []) ∷ []
added_by FalsumElim x y = []
added_by ForAllIntro x y = []
added_by ForAllElim x y = []
added_by ExistsIntro x y = []
added_by ExistsElim x y = []
added_by Sorry x y = []
added_by AlphaEquivalent x y = []

unfoldable pub added : Step Name → List (List Name)
added z = added_by z.rule z.first.name z.second.name

-- the hypotheses in scope at step k: those that are added over the premisses in which it stands
module _ (k : ℕ) where
  unfoldable mutual
    pub scope : ProofTree Name → List Name
    scope (over z ps) = scope_among (added z) ps

    pub scope_among : List (List Name) → Premisses Name → List Name
    scope_among xs none = []
    scope_among xs (t and ps) = cond (eqb (occurrences k t) 0) [] (get_or xs 0 [] ++ scope t) ++ scope_among (drop 1 xs) ps

unfoldable pub all_of : List (List Name) → List Name
all_of [] = []
all_of (xs ∷ xss) = xs ++ all_of xss

-- the hypotheses that the steps of a tree add
unfoldable mutual
  pub binders : ProofTree Name → List Name
  binders (over z ps) = all_of (added z) ++ binders_among ps

  pub binders_among : Premisses Name → List Name
  binders_among none = []
  binders_among (t and ps) = binders t ++ binders_among ps

-- no hypothesis that the donor adds has the name of one in scope at step k of the host
unfoldable pub NoClash : List ℕ → List ℕ → ℕ → Type 0
NoClash h d k =
    (x : Name) → In x (scope k (rename_tree (name_of h) (root_of h))) → In x (binders (rename_tree (name_of d) (root_of d))) → ⊥
