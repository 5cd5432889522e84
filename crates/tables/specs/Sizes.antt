-- What sizes the tables and the source may have: N node entries, N from 16 to 8,192, 6 × N bytes of text, and a source of at most 65,535 bytes.
use Rattle.std.specs.Prelude.{ℕ, ◌*◌, Bool, ◌&&◌, ◌==◌, nat_le}

abbrev pub sizes_fit : ℕ → ℕ → ℕ → Bool
sizes_fit nodes text source = nat_le 16 nodes && (nat_le nodes 8192 && (text == 6 * nodes && nat_le source 65535))
