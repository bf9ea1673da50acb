-- The kinds that are inferred and compared: what they hold.
use Prim.Native.Nat.{ℕ}
use mathlib.Core.Path.{◌≡◌, refl}
use mathlib.Core.Logic.{◌⊎◌, inl, inr}
use mathlib.Core.List.{List}
use Rattle.proof_term.specs.declared.nodes.Kind.TheVariants as variant
use Rattle.proof_term.specs.Records.{field_at}
use Rattle.checker.specs.Asking.{OfKind, Well, term_of}
use Rattle.checker.proofs.Forms.{fst_view, snd_view, application_view, ascription_view, ident_is, unit_is}
use Rattle.checker.proofs.Checking.{Falls, ident_falls, fst_falls, snd_falls, application_falls, ascription_falls, unit_falls}

module _ {records code : List ℕ} {stride m a : ℕ} (w : Well records code stride m) (ea : a ≡ field_at records m 1) where
  pub falls : (OfKind records m variant.Ident) ⊎ ((OfKind records m variant.ProjectFst) ⊎ ((OfKind records m variant.ProjectSnd) ⊎ ((OfKind records m variant.Application) ⊎ ((OfKind records m variant.TypeAscription) ⊎ (OfKind records m variant.Unit)))))
      → Falls (term_of code stride records m)
  falls (inl e) = rw (ident_is w e) (ident_falls (field_at records m 1))
  falls (inr (inl e)) = rw (fst_view w ea e).is (fst_falls (term_of code stride records a))
  falls (inr (inr (inl e))) = rw (snd_view w ea e).is (snd_falls (term_of code stride records a))
  falls (inr (inr (inr (inl e)))) = rw (application_view w ea refl e).is (application_falls (term_of code stride records a) (term_of code stride records (field_at records m 2)))
  falls (inr (inr (inr (inr (inl e))))) = rw (ascription_view w ea e).is (ascription_falls (term_of code stride records a) _)
  falls (inr (inr (inr (inr (inr e))))) = rw (unit_is w e) unit_falls
