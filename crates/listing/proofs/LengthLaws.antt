-- How long a listing is: exactly, and at most 64 bytes. Assumes nothing.
use mathlib.Core.Path.{◌≡◌, refl, ap, ◌∙◌}
use mathlib.Core.Bool.{Bool, true, false}
use mathlib.Core.List.{List, ◌++◌}
use Prim.Native.Nat.{ℕ, min, ◌+◌, ◌%◌, ◌≤◌, ◌<◌}
use native.Mathlib.Omega.{arith}
use borrow.Author.Tests.{leb-true, leb-false}
use lib.Dec.{lit<, lit≤, leb}
use lib.ListN.{length, take, drop, length-append, length-take}
use Rattle.std.specs.Prelude.{Result, Ok, Err}
use Rattle.std.proofs.lemmas.List.{take_min}
use Rattle.rows.proofs.RowsLaws.{first_all}
use Rattle.words.specs.Words.{byte_at, Bytes}
use Rattle.words.proofs.WordsLaws.{bytes_take}
use Rattle.text.specs.Digits.{ascii, digits}
use Rattle.store.specs.Placed.{put_out, joined}
use Rattle.text.proofs.DigitsLaws.{length_digits}
use Rattle.store.proofs.StoreLaws.{put_fits, put_not, put_front, put_length, put_within}
use Rattle.frame.specs.Frame.{frame_of, last_of}
use Rattle.frame.specs.declared.FrameFault.{FrameFault}
use Rattle.address.specs.Address.{address_rows, address_of, addressed, decoded_from, fault_number}
use Rattle.address.specs.declared.Address.{Address}
use Rattle.address.specs.declared.Address.TheVariants.{ToOne, ToMirror, ToAll}
use Rattle.address.specs.declared.Fault.{Fault}
use Rattle.address.proofs.NumberLaws.{fault_between}
use Rattle.address.specs.declared.Fault.TheVariants.{InFrame}
use Rattle.listing.specs.Listing.{good_pieces, refused_pieces, good_text, pieces_of, listing, listed_of}

-- ---- exactly

pub good_size : (count lge node : ℕ) (kind : List ℕ) (bcc : ℕ) → length (joined (good_pieces count lge node kind bcc)) ≡ 43 + length kind + (length (digits count) + length (digits lge) + length (digits node) + length (digits bcc))
good_size count lge node kind bcc = simp length-append (omega arith)

pub refused_size : (count number : ℕ) → length (joined (refused_pieces count number)) ≡ 35 + length (digits count) + length (digits number)
refused_size count number = simp length-append (omega arith)

-- ---- at most

-- the node of an address byte is below 32
abbrev node_of : Result Address Fault → ℕ
node_of (Ok (ToOne node)) = node
node_of (Ok (ToMirror node)) = node
node_of (Ok ToAll) = 0
node_of (Err fault) = 0

node_below : (adr : ℕ) → node_of (address_of adr) < 32
unfolding address_of
node_below adr =
    first_all (λ (a : Result Address Fault). node_of a < 32) (address_rows adr) (Ok (ToOne (adr % 32))) (lit< tt, (lit< tt, (omega arith, tt))) (omega arith)

good_most : (t : List ℕ) → Bytes t → length t ≤ 300 → (node : ℕ) → node < 32 → (kind : List ℕ) → length kind ≤ 9 → length (joined (good_text t node kind)) ≤ 64
good_most t b n node h kind k =
    omega (
      arith,
      good_size (length t) (byte_at t 1) node kind (byte_at t (last_of t)),
      length_digits 2 (length t) (omega arith),
      length_digits 2 (byte_at t 1) (omega (arith, b 1)),
      length_digits 1 node (omega arith),
      length_digits 2 (byte_at t (last_of t)) (omega (arith, b (last_of t))),
    )

refused_most : (t : List ℕ) → length t ≤ 300 → (fault : Fault) → length (joined (refused_pieces (length t) (fault_number fault))) ≤ 64
refused_most t n fault =
    omega (
      arith,
      refused_size (length t) (fault_number fault),
      length_digits 2 (length t) (omega arith),
      length_digits 1 (fault_number fault) (omega (arith, (fault_between fault).1)),
    )

-- 64 bytes hold every listing
pub listing_most : (t : List ℕ) → Bytes t → length t ≤ 300 → length (listing t) ≤ 64
unfolding listing
listing_most t b n = go (frame_of t)
  where
    by_address : (end : ℕ) (a : Result Address Fault) → node_of a < 32 → length (joined (pieces_of t (addressed a end))) ≤ 64
    by_address end (Ok (ToOne node)) h = good_most t b n node h (ascii "normal") (lit≤ tt)
    by_address end (Ok (ToMirror node)) h = good_most t b n node h (ascii "mirror") (lit≤ tt)
    by_address end (Ok ToAll) h = good_most t b n (byte_at t 2 % 32) (omega arith) (ascii "broadcast") (lit≤ tt)
    by_address end (Err fault) h = refused_most t n fault

    go : (f : Result ℕ FrameFault) → length (joined (pieces_of t (decoded_from f (byte_at t 2)))) ≤ 64
    go (Ok end) = by_address end (address_of (byte_at t 2)) (node_below (byte_at t 2))
    go (Err fault) = refused_most t n (InFrame fault)

-- ---- what a call returns

-- the text or nothing is written, so the length is at most that of the text
pub placed_most : (t out : List ℕ) → Bytes t → length t ≤ 300 → (put_out out 0 (listing t)).place ≤ 64
placed_most t out b n = go (leb (0 + length (listing t)) (length out)) refl
  where
    go : (fits : Bool) → leb (0 + length (listing t)) (length out) ≡ fits → (put_out out 0 (listing t)).place ≤ 64
    go true e = rw (put_fits out 0 (listing t) (leb-true _ _ e)) (omega (arith, listing_most t b n))
    go false e = rw (put_not out 0 (listing t) (leb-false _ _ e)) (lit≤ tt)

-- the bytes up to 300
pub take_first : (t : List ℕ) (n : ℕ) → n ≡ min (length t) 300 → take n t ≡ take 300 t
take_first t n e = let m : n ≡ min 300 (length t) = omega (arith, e) in ap (λ (k : ℕ). take k t) m ∙ take_min 300 t

pub placed_first : (t out : List ℕ) → Bytes t → (n : ℕ) → n ≡ min (length t) 300 → (put_out out 0 (listing (take n t))).place ≤ 64
placed_first t out b n e = placed_most (take n t) out (bytes_take n t b) (omega (arith, e, length-take n t))

-- the length is within the buffer
pub listed_within : (received out : List ℕ) → (listed_of received out).place ≤ length out
unfolding listed_of
listed_within received out = put_within out 0 (listing (take 300 received)) (omega arith)

-- what `&out[..n]` asks after a call
pub listed_lent : (received out : List ℕ) {n : ℕ} {after : List ℕ} → n ≡ (listed_of received out).place → after ≡ (listed_of received out).bytes → n ≤ length after
unfolding listed_of
listed_lent received out e f =
    rw (e, f, put_length out 0 (listing (take 300 received))) (listed_within received out)

-- a buffer of 64 bytes or more takes the whole listing, and behind it keeps its bytes
pub listed_whole : (received out : List ℕ) → Bytes received → 64 ≤ length out → let text = listing (take 300 received) in listed_of received out ≡ record { place = length text; bytes = text ++ drop (length text) out }
unfolding listed_of
listed_whole received out b h =
    let t = take 300 received in
    put_front out (listing t) (omega (arith, listing_most t (bytes_take 300 received b) (omega (arith, length-take 300 received))))
