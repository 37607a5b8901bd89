-- The records of a text of CSV, as a reader gives them one at a time.
use Rattle.std.specs.Prelude.{◌≡◌, ◌+◌, ℕ, List, [], length, Bool, true, false, IsSome}
use Rattle.std.specs.declared.option.Option.{Option}
use Rattle.std.specs.declared.option.Option.TheVariants.{None, Some}
use Rattle.std.proofs.Common.{Bor}
use Rattle.csv.specs.Reading.{Ready, default_config, is_flexible, reader_config, reader_state, reader_trim, records_from, source_of}
use Rattle.csv.specs.declared.parser.State.{State}
use Rattle.csv.specs.declared.reader.Reader.{Reader}
use Rattle.csv.specs.declared.reader.Trim.TheVariants as trim

-- the fields of a record, each the list of its bytes
abbrev pub Fields : Type 0
Fields = List (List ℕ)

-- what a reader of records shows: the fields of the record at hand, and the records that are left
pub record Reading : Type 0 where
  pub fields : Fields
  pub left : List Fields

-- the records that these bytes are, read on from a state
abbrev pub records_after : State → List ℕ → List Fields
records_after s bytes = records_from default_config (length bytes + 1) s bytes

-- the same, of bytes that may not be known
abbrev pub known_records : State → Option (List ℕ) → List Fields
known_records s None = []
known_records s (Some bytes) = records_after s bytes

-- a reader over bytes in memory
abbrev pub BytesReader : Type 0
BytesReader = Reader (Bor (List ℕ))

-- the bytes that such a reader has left
abbrev pub bytes_left : BytesReader → Option (List ℕ)
bytes_left r = source_of (λ s. Some s.now) r

-- the records that such a reader has left; none once it has ended
abbrev pub records_left : Bool → BytesReader → List Fields
records_left true r = []
records_left false r = known_records (reader_state r) (bytes_left r)

-- a reader is set up to give every record as it stands in the text: commas, double quotes, no header row, any number of fields
pub record IsPlain (r : BytesReader) : Type 0 where
  pub config : reader_config r ≡ default_config
  pub trim : reader_trim r ≡ trim.None
  pub flexible : is_flexible r ≡ true
  pub ready : Ready r
  pub told : IsSome (bytes_left r)
