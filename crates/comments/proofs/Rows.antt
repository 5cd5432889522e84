-- The notes that the records of a table stand for.
use Rattle.std.proofs.Common.{◌≡◌, ℕ, zero, suc, ◌+◌, ◌<◌, ◌≤◌, Bool, ◌&&◌, ltb, leb, List, [], ◌∷◌, ◌++◌, map, length, take, drop, Decides, sym, refl, ap, ◌∙◌, subst, ap₂, arith}
use Rattle.std.proofs.lemmas.List.{length-map, length-take, length-drop, length-take-le, get_or-take, take_at, take-take, drop_at, drop-take, take-map, drop-map, take-append-drop, map-append}
use Rattle.std.proofs.lemmas.List.Recursion.{is_sum_by}
use Rattle.std.proofs.lemmas.List.Sums.{sum_by-insert}
use Rattle.std.proofs.lemmas.Bool.Decides.{nat_tests}
use Rattle.std.proofs.ByRecursion.{All-from_get_or, All-get_or, All-append, All-take, All-drop, All-weaker}
use Rattle.std.specs.List.{insert as inserted, sum_by, AllByRecursion as All}
use Rattle.comments.specs.declared.types.Side.{Side}
use Rattle.comments.specs.declared.records.Record.{Record}
use Rattle.comments.specs.declared.table.Table.{Table}
use Rattle.comments.specs.Notes.{a_note, bytes, ordered, room, insert}
use Rattle.comments.specs.Records.{read, blank, position_of, Within, sizes}
use Rattle.comments.specs.Tables.{recorded, positions, held}
use Rattle.comments.proofs.Order.{length-ordered, bytes-ordered, ordered_mid}

module _ (t : Table) where
  few : t.count ≤ length t.records
  few = omega (arith, t.places, t.few)

  pub length-recorded : length (recorded t) ≡ t.count
  length-recorded = length-map (take t.count t.records) (read t.bytes) ∙ length-take-le t.count t.records few

-- ---- how many bytes stand
head-within : (r : Record) (rs : List Record) (n used : ℕ) → Within (suc n) used (r ∷ rs) → r.start + r.size ≤ used
head-within r rs n used w = w 0 r (omega arith)

rest_within : (r : Record) (rs : List Record) (n used : ℕ) → Within (suc n) used (r ∷ rs) → Within n used rs
rest_within r rs n used w = λ k d h. w (suc k) d (omega arith)

part_length : (text : List ℕ) (start size : ℕ) → start + size ≤ length text → length (take size (drop start text)) ≡ size
part_length text start size inside = simp (length-take, length-drop) (omega arith)

bytes_read : (text : List ℕ) (used n : ℕ) (rs : List Record) → used ≤ length text → Within n used rs → bytes (map (read text) (take n rs)) ≡ sizes (take n rs)
bytes_read text used zero rs h w = refl
bytes_read text used (suc n) [] h w = refl
bytes_read text used (suc n) (r ∷ rs) h w =
    let here = head-within r rs n used w in
    let inside : r.start + r.size ≤ length text = omega arith in
    ap₂ (λ a b. a + b) (part_length text r.start r.size inside) (bytes_read text used n rs h (rest_within r rs n used w))

pub length-held : (t : Table) → length (held t) ≡ t.count
length-held t = length-ordered (recorded t) ∙ length-recorded t

room_is : (t : Table) (size : ℕ) → room (held t) size ≡ (ltb t.count 512 && leb (t.used + size) 16384)
room_is t size =
    ap₂ (λ a b. ltb a 512 && leb (b + size) 16384)
    (length-ordered (recorded t) ∙ length-recorded t)
    (bytes-ordered (recorded t) ∙ bytes_read t.bytes t.used t.count t.records (omega (arith, t.area, t.short)) t.within ∙ t.sum)

pub room_same : (t : Table) (size : ℕ) (r : Bool) → Decides r ((t.count < 512) × (t.used + size ≤ 16384)) → r ≡ room (held t) size
room_same t size r d = grind (arith, nat_tests, d.0, d.1, room_is t size)

-- ---- bytes written behind those in use leave the notes as they are
read_same : (text changed : List ℕ) (used : ℕ) (r : Record) → take used changed ≡ take used text → r.start + r.size ≤ used → read changed r ≡ read text r
read_same text changed used r same h =
    let cut : take (r.start + r.size) changed ≡ take (r.start + r.size) text =
    sym (take-take (r.start + r.size) used changed h) ∙ ap (take (r.start + r.size)) same ∙ take-take (r.start + r.size) used text h in
    ap (a_note r.side r.position) (sym (drop-take r.start r.size changed) ∙ ap (drop r.start) cut ∙ drop-take r.start r.size text)

reads_same : (text changed : List ℕ) (used n : ℕ) (rs : List Record) → take used changed ≡ take used text → Within n used rs → map (read changed) (take n rs) ≡ map (read text) (take n rs)
reads_same text changed used zero rs same w = refl
reads_same text changed used (suc n) [] same w = refl
reads_same text changed used (suc n) (r ∷ rs) same w =
    ap₂ (λ a b. a ∷ b) (read_same text changed used r same (head-within r rs n used w)) (reads_same text changed used n rs same (rest_within r rs n used w))

-- ---- what the records say, one more among them
sizes-sum : (rs : List Record) → sizes rs ≡ sum_by (λ r. r.size) rs
sizes-sum rs = is_sum_by sizes (λ r. r.size) refl (λ _ _. refl) rs

abbrev EndsBy : ℕ → Record → Type 0
EndsBy used r = r.start + r.size ≤ used

all_of : (count used : ℕ) (rs : List Record) → Within count used rs → All (EndsBy used) (take count rs)
all_of count used rs w =
    All-from_get_or (EndsBy used) (take count rs) blank (λ i h. let lt : i < count = omega (arith, length-take count rs) in subst (EndsBy used) (sym (get_or-take count rs i blank lt)) (w i blank lt))

within_of : (count used : ℕ) (rs : List Record) → count ≤ length rs → All (EndsBy used) (take count rs) → Within count used rs
within_of count used rs few all k d h =
    let lt : k < length (take count rs) = simp length-take (omega arith) in
    subst (EndsBy used) (get_or-take count rs k d h) (All-get_or (EndsBy used) (take count rs) k d lt all)

-- t with a record more, whose text is put behind the bytes in use
module _ (t : Table) (new : List Record) (at : ℕ) (s : Side) (p : ℕ) (put : List ℕ) (rows : take (t.count + 1) new ≡ inserted (take t.count t.records) at (record { side = s; position = p; start = t.used; size = length put })) where
  abbrev added : Record
  added = record { side = s; position = p; start = t.used; size = length put }

  abbrev old : List Record
  old = take t.count t.records

  pub sum_more : sizes (take (t.count + 1) new) ≡ t.used + length put
  sum_more = ap sizes rows ∙ sizes-sum (inserted old at added) ∙ sum_by-insert (λ r. r.size) old at added ∙ ap (λ k. k + length put) (sym (sizes-sum old) ∙ t.sum)

  pub positions-more : map position_of (take (t.count + 1) new) ≡ inserted (positions t) at p
  positions-more =
      ap (map position_of) rows ∙ map-append position_of (take at old) (added ∷ drop at old)
      ∙ ap₂ (λ a b. a ++ p ∷ b) (sym (take-map position_of at old)) (sym (drop-map position_of at old))

  pub within_more : t.count < length new → Within (t.count + 1) (t.used + length put) new
  within_more few =
      let E : Record → Type 0 = EndsBy (t.used + length put) in
      let wide : All (EndsBy (t.used + length put)) old = All-weaker (EndsBy t.used) E (λ r h. omega arith) old (all_of t.count t.used t.records t.within) in
      let here : EndsBy (t.used + length put) added = omega arith in
      within_of (t.count + 1) (t.used + length put) new (omega arith)
      (subst (All E) (sym rows) (All-append E (take at old) (added ∷ drop at old) (All-take E at old wide) (here, All-drop E at old wide)))

  pub held_more : (text : List ℕ) → text ≡ take t.used t.bytes ++ (put ++ drop (length put) (drop t.used t.bytes)) → ordered (map (read text) (take (t.count + 1) new)) ≡ insert (a_note s p put) (held t)
  held_more text is =
      let front = take t.used t.bytes in
      let rest = drop (length put) (drop t.used t.bytes) in
      let len : length (take t.used t.bytes) ≡ t.used = length-take-le t.used t.bytes (omega (arith, t.area, t.short)) in
      let kept : take t.used text ≡ take t.used t.bytes = ap (take t.used) is ∙ take_at front (put ++ rest) t.used len in
      let mid : take (length put) (drop t.used text) ≡ put = ap (λ l. take (length put) (drop t.used l)) is ∙ ap (take (length put)) (drop_at front (put ++ rest) t.used len) ∙ take_at put rest (length put) refl in
      ap (λ l. ordered (map (read text) l)) rows
      ∙ ap ordered (map-append (read text) (take at old) (added ∷ drop at old))
      ∙ ordered_mid (map (read text) (take at old)) (map (read text) (drop at old)) (read text added)
      ∙ ap₂ (λ a b. insert a (ordered b)) (ap (a_note s p) mid)
      (sym (map-append (read text) (take at old) (drop at old)) ∙ ap (map (read text)) (take-append-drop at old) ∙ reads_same t.bytes text t.used t.count t.records kept t.within)
