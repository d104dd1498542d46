-- The listing of received bytes (document 01, Listing program): lines, each ended by one LF, numbers in decimal.
--     good_pieces ..            the text of a telegram of one of the three kinds, piece by piece
--     refused_pieces ..         the text where one of 10 to 15 applies
--     listing t                 the text of the bytes t
--     listed_of received out    the text of the first 300 bytes, written at the start of `out` where it fits
use Rattle.std.specs.Prelude.{ℕ, ◌%◌, List, [], ◌∷◌, length, take, Result, Ok, Err}
use Rattle.words.specs.Words.{byte_at}
use Rattle.text.specs.Digits.{ascii, digits}
use Rattle.store.specs.Placed.{Placed, put_out, joined}
use Rattle.frame.specs.Frame.{last_of}
use Rattle.address.specs.Address.{decoded_of, fault_number}
use Rattle.address.specs.declared.Fault.{Fault}
use Rattle.address.specs.declared.Telegram.{Telegram}
use Rattle.address.specs.declared.Telegram.TheVariants.{Normal, Mirror, Broadcast}

-- the first line
abbrev pub header : List ℕ
header = ascii "telegram listing 1\n"

abbrev pub good_pieces : ℕ → ℕ → ℕ → List ℕ → ℕ → List (List ℕ)
good_pieces count lge node kind bcc =
    header
    ∷ ascii "bytes " ∷ digits count ∷ ascii " lge " ∷ digits lge ∷ ascii " node " ∷ digits node ∷ ascii " " ∷ kind
    ∷ ascii "\nbcc " ∷ digits bcc
    ∷ ascii "\n" ∷ []

abbrev pub refused_pieces : ℕ → ℕ → List (List ℕ)
refused_pieces count number =
    header
    ∷ ascii "bytes " ∷ digits count ∷ ascii " refused " ∷ digits number
    ∷ ascii "\n" ∷ []

-- a telegram's byte count, LGE and BCC beside its node and its kind's word
abbrev pub good_text : List ℕ → ℕ → List ℕ → List (List ℕ)
good_text t node kind = good_pieces (length t) (byte_at t 1) node kind (byte_at t (last_of t))

-- by kind; the node of a broadcast is ADR's bits 0 to 4 (ours)
abbrev pub pieces_of : List ℕ → Result Telegram Fault → List (List ℕ)
pieces_of t (Ok (Normal node start end)) = good_text t node (ascii "normal")
pieces_of t (Ok (Mirror node)) = good_text t node (ascii "mirror")
pieces_of t (Ok Broadcast) = good_text t (byte_at t 2 % 32) (ascii "broadcast")
pieces_of t (Err fault) = refused_pieces (length t) (fault_number fault)

unfoldable pub listing : List ℕ → List ℕ
listing t = joined (pieces_of t (decoded_of t))

-- bytes past the first 300 are ignored, and not counted; a text that does not fit is not written (ours)
unfoldable pub listed_of : List ℕ → List ℕ → Placed
listed_of received out = put_out out 0 (listing (take 300 received))
