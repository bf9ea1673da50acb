-- Where labels are stored one after another, the code of each proposition stands at its offset.
use Prim.Native.Nat.{ℕ, suc, ◌+◌, ◌≤◌}
use mathlib.Core.Path.{◌≡◌, refl, sym, ap, ◌∙◌}
use mathlib.Core.List.{List, [], ◌∷◌, ◌++◌, append_assoc}
use native.Mathlib.Omega.{arith}
use lib.ListN.{length, set, take, drop, take-append-drop}
use lib.Seq.{length-take-le, take_at, drop_at, take-add, take-set-le, sets, length-sets, sets-eq}
use Rattle.definitions.specs.Name.{Name}
use Rattle.definitions.specs.Prop.{Prop, rename_prop}
use Rattle.definitions.specs.Code.{encode, Codable}
use Rattle.definitions.specs.Term.{Label, proposition, datatype}
use Rattle.definitions.specs.TermText.{code_bytes}
use Rattle.definitions.specs.TermMemory.{label_size, labels_size, store_label, store_labels}
use Rattle.definitions.proofs.Shape.{length_same}
use Rattle.prefix_code.specs.Scan.{Stands, At}
use Rattle.prefix_code.specs.PropAt.{prop_at, Present}
use Rattle.prefix_code.proofs.Reading.{prop_at_lem, present}
use Rattle.term_meaning.specs.Offsets.{BeginsAt, first, later}

-- What is stored stands there, and nothing before it changes.
stored_below : (vs l : List ℕ) (i n : ℕ) → n ≤ i → take n (sets l i vs) ≡ take n l
stored_below [] l i n h = refl
stored_below (v ∷ vs) l i n h = stored_below vs (set l i v) (suc i) n (omega arith) ∙ take-set-le n l i v h

part_taken : (l : List ℕ) (at n : ℕ) → at ≤ length l → drop at (take (at + n) l) ≡ take n (drop at l)
part_taken l at n h = rw (take-add at n l) (drop_at (take at l) (take n (drop at l)) at (length-take-le at l h))

stored_stands : (vs l : List ℕ) (i : ℕ) → i + length vs ≤ length l → take (length vs) (drop i (sets l i vs)) ≡ vs
stored_stands vs l i h =
    rw (sets-eq vs l i h, append_assoc, drop_at (take i l) (vs ++ drop (i + length vs) l) i (length-take-le i l (omega arith)))
    (take_at vs _ (length vs) refl)

module _ (number : Name → ℕ) where
  -- the code of a label takes no more than its size
  code_within : (p : Prop Name) → length (encode (rename_prop number p)) ≤ label_size (proposition p)
  unfolding label_size code_bytes
  code_within p = omega (arith, length_same number (λ x. 0) p)

  store_length : (to : ℕ) (l : Label Name) (code : List ℕ) → length (store_label number to l code) ≡ length code
  unfolding store_label
  store_length to (proposition p) code = length-sets code to (encode (rename_prop number p))
  store_length to (datatype t) code = refl

  store_below : (to : ℕ) (l : Label Name) (code : List ℕ) (n : ℕ) → n ≤ to → take n (store_label number to l code) ≡ take n code
  unfolding store_label
  store_below to (proposition p) code n h = stored_below (encode (rename_prop number p)) code to n h
  store_below to (datatype t) code n h = refl

  -- labels stored from an offset on, of every list
  stores_below : (to : ℕ) (ls : List (Label Name)) (code : List ℕ) (n : ℕ) → n ≤ to → take n (store_labels number to ls code) ≡ take n code
  unfolding store_labels
  stores_below to [] code n h = refl
  stores_below to (l ∷ ls) code n h =
      stores_below (to + label_size l) ls (store_label number to l code) n (omega arith) ∙ store_below to l code n h

  pub stores_length : (to : ℕ) (ls : List (Label Name)) (code : List ℕ) → length (store_labels number to ls code) ≡ length code
  unfolding store_labels
  stores_length to [] code = refl
  stores_length to (l ∷ ls) code = stores_length (to + label_size l) ls (store_label number to l code) ∙ store_length to l code

  -- the code of each proposition stands where it begins
  stands : {p : Prop Name} {at to : ℕ} {ls : List (Label Name)} → BeginsAt p at to ls → (before : List ℕ) → to + labels_size ls ≤ length before
      → take (length (encode (rename_prop number p))) (drop at (store_labels number to ls before)) ≡ encode (rename_prop number p)
  unfolding store_labels store_label labels_size
  stands {p} {at} (first {ls}) before fits =
      let code = encode (rename_prop number p) in
      let n = length code in
      let mid = sets before at code in
      let after = store_labels number (at + label_size (proposition p)) ls mid in
      let long : length mid ≡ length before = length-sets before at code in
      let all : length after ≡ length mid = stores_length (at + label_size (proposition p)) ls mid in
      let inside = code_within p in
      sym (part_taken after at n (omega arith))
      ∙ (ap (drop at) (stores_below (at + label_size (proposition p)) ls mid (at + n) (omega arith))
      ∙ (part_taken mid at n (omega arith)
      ∙ stored_stands code before at (omega arith)))
  stands {to = to} (later {l = l} h) before fits = stands h (store_label number to l before) (omega (arith, store_length to l before))

-- the law: in the code that is stored for labels, the proposition of each label stands at its offset, over names below a count
module _ (number : Name → ℕ) (count : ℕ) {p : Prop Name} {at to : ℕ} {ls : List (Label Name)} (begins : BeginsAt p at to ls)
    (codable : Codable count (rename_prop number p)) (before : List ℕ) (fits : to + labels_size ls ≤ length before) where
  abbrev stored : List ℕ
  stored = store_labels number to ls before

  abbrev rest : List ℕ
  rest = drop (length (encode (rename_prop number p))) (drop at stored)

  code_at : At count stored at (rename_prop number p) rest
  unfolding Stands
  code_at = (codable, sym (take-append-drop (length (encode (rename_prop number p))) (drop at stored)) ∙ ap (λ code. code ++ rest) (stands number begins before fits))

  pub code_means : prop_at count stored at ≡ rename_prop number p
  code_means = prop_at_lem count stored at (rename_prop number p) rest code_at

  pub code_present : Present count stored at
  code_present = present count stored at (rename_prop number p) rest code_at
