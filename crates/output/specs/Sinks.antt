-- What it is to put a text: into the memory that a writer holds, and for a counter.
use Rattle.std.specs.Prelude.{◌+◌, ◌-◌, ◌^◌, ◌≡◌, List, length, min}
use Rattle.output.specs.Wrote.{Wrote}
use Rattle.output.specs.declared.writer.Writer.{Writer}
use Rattle.output.specs.declared.counter.Counter.{Counter}

-- the text is written, and the writer holds the same memory
pub record WriterPuts {A : Type 0} (a : Writer A) (text : List A) (b : Writer A) : Type 0 where
  pub wrote : Wrote text a.out.now a.to b.out.now b.to
  pub same_memory : b.out.ghost_name ≡ a.out.ghost_name

-- so many elements more are counted, or as many as a number can say
pub record CounterPuts {A : Type 0} (a : Counter) (text : List A) (b : Counter) : Type 0 where
  pub counted : b.count ≡ min (a.count + length text) (2 ^ 64 - 1)
