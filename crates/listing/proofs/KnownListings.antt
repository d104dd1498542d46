-- Known listings: the example of document 01, and one of each other form of text. Assumes nothing.
use mathlib.Core.Path.{◌≡◌, refl}
use mathlib.Core.List.{List, [], ◌∷◌, map}
use Prim.Native.Nat.{ℕ}
use Prim.Native.String.{String}
use Rattle.text.specs.Digits.{ascii, digits}
use Rattle.bcc.specs.Bcc.{xor_all}
use Rattle.frame.specs.Frame.{frame_of}
use Rattle.address.specs.Address.{address_of}
use Rattle.listing.specs.Listing.{listing}

abbrev pub listings : List (List ℕ × String)
listings =
    -- the example of document 01
    (0x02 ∷ 0x07 ∷ 0x00 ∷ 0x04 ∷ 0x00 ∷ 0x21 ∷ 0x00 ∷ 0x1C ∷ 0x3C ∷ [], "telegram listing 1\nbytes 9 lge 7 node 0 normal\nbcc 60\n")
    -- a mirror and a broadcast
    ∷ (0x02 ∷ 0x03 ∷ 0x5F ∷ 0x15 ∷ 0x4B ∷ [], "telegram listing 1\nbytes 5 lge 3 node 31 mirror\nbcc 75\n")
    ∷ (0x02 ∷ 0x03 ∷ 0x2A ∷ 0x15 ∷ 0x3E ∷ [], "telegram listing 1\nbytes 5 lge 3 node 10 broadcast\nbcc 62\n")
    -- 10 to 15
    ∷ ([], "telegram listing 1\nbytes 0 refused 10\n")
    ∷ (0x03 ∷ 0x03 ∷ 0x00 ∷ 0x15 ∷ 0x15 ∷ [], "telegram listing 1\nbytes 5 refused 11\n")
    ∷ (0x02 ∷ 0x02 ∷ 0x00 ∷ 0x15 ∷ 0x15 ∷ [], "telegram listing 1\nbytes 5 refused 12\n")
    ∷ (0x02 ∷ 0x04 ∷ 0x00 ∷ 0x15 ∷ 0x13 ∷ [], "telegram listing 1\nbytes 5 refused 13\n")
    ∷ (0x02 ∷ 0x03 ∷ 0x00 ∷ 0x15 ∷ 0x15 ∷ [], "telegram listing 1\nbytes 5 refused 14\n")
    ∷ (0x02 ∷ 0x03 ∷ 0x80 ∷ 0x15 ∷ 0x94 ∷ [], "telegram listing 1\nbytes 5 refused 15\n")
    ∷ []

pub listings_hold : map (λ (x : List ℕ × String). listing x.0) listings ≡ map (λ (x : List ℕ × String). ascii x.1) listings
unfolding listing frame_of address_of xor_all digits
listings_hold = refl
