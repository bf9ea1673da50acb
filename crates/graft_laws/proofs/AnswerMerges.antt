-- The answer of a graft that is not refused merges the donor into the host.
use Prim.Native.Nat.{ℕ}
use mathlib.Core.Path.{◌≡◌}
use mathlib.Core.List.{List}
use Rattle.definitions.specs.Graft.{merged_parts, merged_sheet, merged, graft_answer}
use Rattle.definitions.proofs.Readings.{Bytes}
use Rattle.writer_laws.proofs.Assembling.{name_pairs_assembled, proposition_pairs_assembled, step_records_assembled, text_bytes_assembled, code_bytes_assembled}
use Rattle.graft_laws.specs.Merges.{KeepsHost, Merges}
use Rattle.graft_laws.proofs.MergedSheet.{Grafts, fit, merged_count, merged_propositions, merged_step_count, merged_goal}
use Rattle.graft_laws.proofs.Answered.{answered, answer_admitted, answer_spliced, answer_index}
use Rattle.graft_laws.proofs.SoundMerged.{sound_merged}

keeps_host : {h d : List ℕ} {k : ℕ} (g : Grafts h d k) → KeepsHost h d k (merged_sheet h d k)
unfolding merged_sheet merged_parts
keeps_host {h} {d} {k} g =
    record {
      names = merged_count g;
      propositions = merged_propositions g;
      steps = merged_step_count g;
      goal = merged_goal g;
      name_pairs = name_pairs_assembled (merged_parts h d k) (fit g);
      proposition_pairs = proposition_pairs_assembled (merged_parts h d k) (fit g);
      records = step_records_assembled (merged_parts h d k) (fit g);
      text = text_bytes_assembled (merged_parts h d k) (fit g);
      code = code_bytes_assembled (merged_parts h d k) (fit g);
    }

pub answer_merges : (h d : List ℕ) (k room : ℕ) (m : List ℕ) → Bytes h → Bytes d → graft_answer h d k room ≡ merged m → Merges h d k m
answer_merges h d k room m host_bytes donor_bytes is =
    let a = answered h d k room m host_bytes donor_bytes is in
    record {
      parts = rw a.is_merged (keeps_host a.grafts);
      is_admitted = answer_admitted h d k room m host_bytes donor_bytes is;
      same_conclusion = a.same;
      spliced = answer_spliced h d k room m host_bytes donor_bytes is;
      index = answer_index h d k room m host_bytes donor_bytes is;
      sound = sound_merged h d k room m host_bytes donor_bytes is;
    }
