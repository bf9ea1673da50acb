-- A text that is written piece by piece: what is done, and what is left. So a term's text is written by the items of its format.
use Prim.Native.Nat.{ℕ, ◌+◌, ◌≤◌, ◌<◌}
use mathlib.Core.Path.{◌≡◌, refl, sym, ap, ◌∙◌}
use mathlib.Core.List.{List, [], ◌++◌, append_assoc, append-nil}
use lib.ListN.{length, get_or, drop}
use Rattle.definitions.specs.declared.Style.{Style}
use Rattle.definitions.specs.Term.{rename_term}
use Rattle.definitions.specs.Display.{display_term}
use Rattle.output.specs.SinkLaws.{SinkLaws}
use Rattle.proof_term.specs.Records.{field_at, part_at}
use Rattle.vocabulary.specs.declared.Vocabulary.{Vocabulary}
use Rattle.vocabulary.specs.Vocabulary.{name_in, prop_in}
use Rattle.proof_term_display.specs.Format.{Item, item_of, items, formats}
use Rattle.proof_term_display.specs.Printable.{PrintableTerm, term_text}
use Rattle.proof_term_display.specs.Item.{KindAt, ItemReady, record_item}
use Rattle.proof_term_display.proofs.Items.{items_next, items_past}
use Rattle.proof_term_display.proofs.Formats.{rendered, format_text}
use Rattle.proof_term_display.proofs.Ready.{Ready, ready_next, ready}

-- of `whole`, which is put into a sink, all is done but what is left
pub record Begun {S : Type 0} (whole : List ℕ) (puts : S → List ℕ → S → Type 0) (before after : S) (left : List ℕ) : Type 0 where
  pub done : List ℕ
  pub put : puts before done after
  pub both : done ++ left ≡ whole

module _ {S : Type 0} {puts : S → List ℕ → S → Type 0} {whole : List ℕ} {before : S} where
  -- nothing is done yet
  begin : SinkLaws puts → Begun whole puts before before whole
  begin laws = record { done = []; put = laws.none before; both = refl }

  -- one piece more
  more : {mid after : S} {s left : List ℕ} → SinkLaws puts → Begun whole puts before mid (s ++ left) → puts mid s after → Begun whole puts before after left
  more {s = s} {left = left} laws b w = record { done = b.done ++ s; put = laws.then b.put w; both = append_assoc b.done s left ∙ b.both }

  -- nothing is left
  finish : {after : S} → Begun whole puts before after [] → puts before whole after
  finish b = rw (sym (append-nil b.done) ∙ b.both) at b.put

module _ (s : Style) (bytes : List ℕ) (v : Vocabulary) (ends records : List ℕ) (n : ℕ) where
  abbrev whole : List ℕ
  whole = term_text s bytes v records n

  abbrev texts : List Item → List ℕ
  texts = rendered s (name_in bytes v) (prop_in bytes v) (part_at (prop_in bytes v) records n) (field_at records n)

  -- the text of record n's term is put as far as the items before place i of its format go, and those from there on can be printed
  pub record Underway {S : Type 0} (puts : S → List ℕ → S → Type 0) (before : S) (format : List ℕ) (after : S) (i : ℕ) : Type 0 where
    pub begun : Begun whole puts before after (texts (items (drop i format)))
    pub rest : Ready bytes v ends records n (items (drop i format))

  module _ {S : Type 0} {puts : S → List ℕ → S → Type 0} (laws : SinkLaws puts) {before : S} where
    pub start :
        {kind : ℕ} {format : List ℕ} → PrintableTerm records n bytes v ends → KindAt records n kind → items format ≡ get_or formats kind [] →
        Underway puts before format before 0
    start {kind} {format} p k is =
        let shown : texts (items format) ≡ whole =
        ap texts is ∙ format_text s (name_in bytes v) (prop_in bytes v) (part_at (prop_in bytes v) records n) (field_at records n) kind k.known
        ∙ ap (λ t. display_term s (rename_term (name_in bytes v) t)) (sym (k.holds (prop_in bytes v))) in
        record { begun = rw shown (begin laws); rest = rw is (ready bytes v ends records n p k) }

    module _ {format : List ℕ} {after : S} {i : ℕ} (u : Underway puts before format after i) where
      pub ends_past : length format ≤ i → puts before whole after
      unfolding rendered
      ends_past h = finish (rw (items_past format i h) at u.begun)

      module _ (h : i < length format) where
        both_ready : ItemReady bytes v ends records n (item_of (get_or format i 0)) × Ready bytes v ends records n (items (drop (i + 1) format))
        both_ready = ready_next bytes v ends records n _ _ (rw (items_next format i h) at u.rest)

        pub item_ready : ItemReady bytes v ends records n (item_of (get_or format i 0))
        item_ready = both_ready.0

        pub goes_on : {later : S} → puts after (record_item bytes v records n s (item_of (get_or format i 0))) later → Underway puts before format later (i + 1)
        unfolding rendered
        goes_on w = record { begun = more laws (rw (items_next format i h) at u.begun) w; rest = both_ready.1 }
