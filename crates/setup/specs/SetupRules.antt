-- Which set-ups may be used (document 01, Answer numbers: 20, and 30 "set-up as 20"), and which telegrams are for one (16 and 17).
--     setup_bad s          node over 31, PKW not 0, 3, 4, PZD over 4, or both 0
--     setup_ok s           none of these
--     area_count s n       how many words the parameter area of a telegram with n net bytes has: the PKW setting
--     other_node s node    line 16: another node's
--     other_length s n     line 17: n not 2 × (PKW + PZD)
use Rattle.std.specs.Prelude.{ℕ, ◌+◌, ◌*◌, Bool, not, ◌&&◌, ◌||◌, ltb, eqb}
use Rattle.setup.specs.declared.Setup.{Setup}

abbrev pub setup_bad : Setup → Bool
setup_bad s =
    ltb 31 s.node
    || not (eqb s.pkw 0 || eqb s.pkw 3 || eqb s.pkw 4)
    || ltb 4 s.pzd
    || eqb s.pkw 0 && eqb s.pzd 0

unfoldable pub setup_ok : Setup → Bool
setup_ok s = not (setup_bad s)

-- the setting says how many words the parameter area has, whatever n
abbrev pub area_count : Setup → ℕ → ℕ
area_count s n = s.pkw

-- line 16, "other node"
abbrev pub other_node : Setup → ℕ → Bool
other_node s node = not (eqb node s.node)

-- line 17, "n not 2 × (PKW + PZD)"
abbrev pub other_length : Setup → ℕ → Bool
other_length s n = not (eqb n ((area_count s n + s.pzd) * 2))
