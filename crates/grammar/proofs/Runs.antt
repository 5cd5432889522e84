-- Runs of bytes that are words.
use Rattle.std.proofs.Common.{◌≡◌, ℕ, List, length, sym}
use Rattle.std.specs.Prelude.{Some}
use Rattle.std.proofs.lemmas.Slice.Eq.{HasBytesAt, text_from_reads}
use Rattle.tables.specs.declared.kind.Kind.{Kind}
use Rattle.grammar.specs.Words.{word_of, named, kinds, kind_of}

-- a run that reads as a word, byte by byte, names what the word names
pub read_kind : (k : Kind) (s : List ℕ) → named kinds (word_of k) ≡ Some k → length s ≡ length (word_of k) → HasBytesAt s 0 (word_of k) → Some k ≡ kind_of s
unfolding kind_of
read_kind k s known len reads = rw (text_from_reads s (word_of k) len reads) (sym known)
