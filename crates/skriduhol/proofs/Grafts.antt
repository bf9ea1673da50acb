-- A graft as it is handed back, from what the layer below answers; and that a sheet's own refusal comes after its 1 to 3.
use Prim.Native.Nat.{ℕ}
use mathlib.Core.Path.{◌≡◌, refl, sym, ap, ◌∙◌}
use mathlib.Core.List.{List}
use native.Mathlib.Omega.{arith}
use Rattle.std.specs.Prelude.{Result, Ok, Err, MatchResult, IsErrAnd}
use Rattle.std.proofs.lemmas.Result.{err_from_is_err_and}
use Rattle.definitions.specs.declared.Refusal.{Refusal}
use Rattle.definitions.specs.declared.Located.{Located}
use Rattle.definitions.specs.declared.Whose.{Whose}
use Rattle.definitions.specs.declared.Whose.TheVariants.{Neither, Host, Donor}
use Rattle.definitions.specs.Outcome.{Outcome, refused, accepted}
use Rattle.definitions.specs.Admission.{admitted}
use Rattle.definitions.specs.Graft as graft
use Rattle.definitions.specs.Graft.{refused_by, merged, by, graft_answer, located_by}
use Rattle.grafting.specs.Answered.{merged_of, FillsBy}
use Rattle.located.specs.AfterHeader.{AfterHeader}
use Rattle.located.proofs.AfterHeader.{admission_after_header}
use Rattle.skriduhol.specs.Grafts.{grafted_of, GraftsOf}

-- Of two sheets' bytes:
module _ (h d : List ℕ) where
  -- a graft's answer with its refusal located
  unfoldable pub back_by : Result ℕ (Whose × Refusal) → Result ℕ (Whose × Located)
  back_by (Ok n) = Ok n
  back_by (Err (w, r)) = Err (w, located_by h d w r)

  -- it is what `map_err` makes of the answer by a closure that locates
  pub mapped_by : (m : Result ℕ (Whose × Refusal)) {r : Result ℕ (Whose × Located)} {P : Whose × Refusal → Whose × Located → Type 0}
      → MatchResult m (λ x. r ≡ Ok x) (λ x. IsErrAnd r (P x))
      → ((x : Whose × Refusal) (l : Whose × Located) → P x l → l ≡ (x.0, located_by h d x.0 x.1))
      → r ≡ back_by m
  unfolding back_by
  mapped_by (Ok x) cases says = cases
  mapped_by (Err x) {r} cases says = let (l, is, p) = err_from_is_err_and r cases in is ∙ ap (λ y. Err y) (says x l p)

  -- a length that is handed back is the one that was answered
  pub length_told : (m : Result ℕ (Whose × Refusal)) {r : Result ℕ (Whose × Located)} {n : ℕ} → r ≡ back_by m → r ≡ Ok n → m ≡ Ok n
  unfolding back_by
  length_told (Ok x) e is = cc
  length_told (Err x) e is = absurd (grind arith)

  pub merged_back : (o : graft.Grafted) → back_by (merged_of o) ≡ grafted_of h d o
  unfolding back_by merged_of grafted_of
  merged_back (refused_by w r) = refl
  merged_back (merged a) = refl

-- whose refusal it is says which sheet's admission gave it
module _ (h d : List ℕ) (k room : ℕ) where
  by_host : {x : Refusal} → graft_answer h d k room ≡ refused_by Host x → admitted h ≡ refused x
  unfolding graft_answer by
  by_host {x} e = go (admitted h) (admitted d) (graft.graft h d k room) e
    where
      go : {A B : Type 0} (a : Outcome A) (b : Outcome B) (c : Outcome (List ℕ))
          → by Host a (λ _. by Donor b (λ _. by Neither c merged)) ≡ refused_by Host x → a ≡ refused x
      go (refused y) b c f = cc
      go (accepted y) (refused z) c f = absurd (grind arith)
      go (accepted y) (accepted z) (refused w) f = absurd (grind arith)
      go (accepted y) (accepted z) (accepted w) f = absurd (grind arith)

  by_donor : {x : Refusal} → graft_answer h d k room ≡ refused_by Donor x → admitted d ≡ refused x
  unfolding graft_answer by
  by_donor {x} e = go (admitted h) (admitted d) (graft.graft h d k room) e
    where
      go : {A B : Type 0} (a : Outcome A) (b : Outcome B) (c : Outcome (List ℕ))
          → by Host a (λ _. by Donor b (λ _. by Neither c merged)) ≡ refused_by Donor x → b ≡ refused x
      go (refused y) b c f = absurd (grind arith)
      go (accepted y) (refused z) c f = cc
      go (accepted y) (accepted z) (refused w) f = absurd (grind arith)
      go (accepted y) (accepted z) (accepted w) f = absurd (grind arith)

  module _ {before after : List ℕ} {m : Result ℕ (Whose × Refusal)} (f : FillsBy (graft_answer h d k room) before after m) where
    refused_by_lem : {w : Whose} {x : Refusal} → m ≡ Err (w, x) → graft_answer h d k room ≡ refused_by w x
    unfolding merged_of
    refused_by_lem {w} {x} e = go (graft_answer h d k room) f.answered
      where
        go : (o : graft.Grafted) → m ≡ merged_of o → o ≡ refused_by w x
        go (refused_by v y) g =
            let both : ◌≡◌ {A = Whose × Refusal} (w, x) (v, y) = cc in
            let same : v ≡ w = sym (ap (λ (p : Whose × Refusal). p.0) both) in
            let other : y ≡ x = sym (ap (λ (p : Whose × Refusal). p.1) both) in
            rw (same, other)
        go (merged a) g = absurd (grind arith)

    pub after_headers : {w : Whose} {x : Refusal} → m ≡ Err (w, x) → (w ≡ Host → AfterHeader h x) × (w ≡ Donor → AfterHeader d x)
    after_headers {w} {x} e =
        let is = refused_by_lem e in (
          (λ s. admission_after_header h (by_host (is ∙ ap (λ (v : Whose). refused_by v x) s))),
          (λ s. admission_after_header d (by_donor (is ∙ ap (λ (v : Whose). refused_by v x) s))),
        )

    -- the graft in lent memory, with its refusal located
    pub grafts_back : {r : Result ℕ (Whose × Located)} → r ≡ back_by h d m → GraftsOf h d (graft_answer h d k room) before after r
    grafts_back e = record { answered = e ∙ ap (back_by h d) f.answered ∙ merged_back h d (graft_answer h d k room); memory = f.memory }
