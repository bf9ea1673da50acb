-- The laws of both sinks.
use mathlib.Core.Path.{refl, ◌∙◌}
use mathlib.Core.List.{List, [], ◌++◌}
use native.Mathlib.Omega.{arith}
use lib.ListN.{length-append}
use Rattle.output.specs.SinkLaws.{SinkLaws}
use Rattle.output.specs.Sinks.{WriterPuts, CounterPuts}
use Rattle.output.specs.declared.writer.Writer.{Writer}
use Rattle.output.specs.declared.counter.Counter.{Counter}
use Rattle.output.specs.Joins as joins

pub writer_none : {A : Type 0} (a : Writer A) → WriterPuts a [] a
writer_none a = record { wrote = joins.none a.out.now a.to; same_memory = refl }

pub writer_then : {A : Type 0} {a b c : Writer A} {s t : List A} → WriterPuts a s b → WriterPuts b t c → WriterPuts a (s ++ t) c
writer_then h k = record { wrote = joins.then h.wrote k.wrote; same_memory = k.same_memory ∙ h.same_memory }

pub counter_none : {A : Type 0} (a : Counter) → CounterPuts {A = A} a [] a
counter_none a = let within = a.bounded in record { counted = omega arith }

pub counter_then : {A : Type 0} {a b c : Counter} {s t : List A} → CounterPuts a s b → CounterPuts b t c → CounterPuts a (s ++ t) c
counter_then {s = s} {t = t} h k = record { counted = omega (arith, h.counted, k.counted, length-append s t) }

pub writer_laws : {A : Type 0} → SinkLaws {A = A} WriterPuts
writer_laws = record { none = writer_none; then = writer_then }

pub counter_laws : {A : Type 0} → SinkLaws {A = A} CounterPuts
counter_laws = record { none = counter_none; then = counter_then }
