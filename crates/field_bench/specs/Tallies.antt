-- How the benchmark counts fields.
use Rattle.std.specs.Prelude.{ℕ, zero, suc, ◌+◌, ◌%◌, ◌^◌, List, length}
use Rattle.hpack.specs.Decoding.{decode_with}
use Rattle.tables.specs.DynamicTable.{Dynamic}
use Rattle.field_bench.specs.declared.tally.Tally.{Tally}

-- One more field, and the octets of its name and value; the counters wrap at 64 bits.
abbrev pub tallied : Tally → List ℕ → List ℕ → Tally
tallied t n v = record { fields = (t.fields + 1) % 2 ^ 64; octets = ((t.octets + length n) % 2 ^ 64 + length v) % 2 ^ 64 }

-- A block decoded: the next table and tally.
abbrev pub counted : List ℕ → Dynamic × Tally → Dynamic × Tally
counted block s = ((decode_with tallied s.1 s.0 block).1, (decode_with tallied s.1 s.0 block).2)

-- The same block decoded n times.
unfoldable pub repeated : ℕ → List ℕ → Dynamic × Tally → Dynamic × Tally
repeated zero block s = s
repeated (suc n) block s = repeated n block (counted block s)
