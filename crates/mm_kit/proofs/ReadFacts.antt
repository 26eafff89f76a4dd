-- What a record is read as, whether or not it is text.
use Rattle.std.proofs.Common.{inl, Result, Ok, Err}
use Rattle.csv.specs.Records.{AllText}
use Rattle.mm_definitions.specs.Reading.{ReadsTo}
use Rattle.mm_definitions.specs.Records.{IsLeast}
use Rattle.mm_definitions.specs.declared.answers.ReadFault.{ReadFault}
use Rattle.mm_definitions.specs.declared.answers.ReadFault.TheVariants as faults
use Rattle.mm_io.specs.Records.{Record}
use Rattle.std.proofs.Common.{ℕ}
use Rattle.mm_kit.specs.Entries.{HoldsAgainstEntry, IsEntry}
use Rattle.mm_kit.specs.Lists.{IsEntryRead}
use Rattle.mm_kit.specs.declared.entries.KitEntry.{KitEntry}

pub text_read : (place : ℕ) (r : Record) (result : Result KitEntry ReadFault) → AllText r
    → ReadsTo (IsEntry place r) (IsLeast (HoldsAgainstEntry place r)) result → IsEntryRead place r result
text_read place r (Ok e) text h = (text, h)
text_read place r (Err faults.Memory) text h = tt
text_read place r (Err (faults.Refused why)) text h = (h.0, inl (text, h.1))
