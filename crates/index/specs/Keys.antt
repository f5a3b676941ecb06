-- Keys, and the trees that they branch in. Assumes nothing.
use Rattle.std.specs.Prelude.{ℕ, ◌+◌, ◌*◌, ◌/◌, ◌%◌, Bool, ◌&&◌, cond, eqb}
use Rattle.protocol.specs.Entry.{Vote}
use Rattle.protocol.specs.Words.{lower_of, upper_of}
use Rattle.search_tree.specs.Tree.{Shape}
use Rattle.mixing.specs.Mixing.{mix}
use Rattle.index.specs.declared.Key.{Key}

-- a block's number
abbrev pub number_key : ℕ → Key
number_key x = record { a = lower_of x; b = lower_of x; c = lower_of x; d = upper_of x }

abbrev pub vote_key : Vote → Key
vote_key v = record { a = lower_of v.number; b = v.slot; c = v.voter; d = upper_of v.number }

-- a vote's voter and slot; the slot stands where the number does
abbrev pub slot_key_of : Vote → Key
slot_key_of v = record { a = v.slot; b = v.slot; c = v.voter; d = 0 }

unfoldable pub same_key : Key → Key → Bool
same_key x y = eqb x.a y.a && (eqb x.b y.b && (eqb x.c y.c && eqb x.d y.d))

-- all words of a key, mixed
unfoldable pub mix_of : ℕ → Key → ℕ
mix_of salt k = mix salt k.a k.b k.c k.d

-- Of a tree's roots one is chosen by the lowest bits of b, c and d: a voter and slot have one of their own among 128 slots, and so have
-- numbers that follow each other; where there are few voters, slots that are 128 apart have roots beside each other.
unfoldable pub low_root : Key → ℕ
low_root k = (k.b % 128 * 64 + k.b / 128 % 1024 * 8 + k.c % 8192 + k.d % 8192) % 8192

-- If the salt is 0, each row has two links, and keys that share a root part by the digits of their words, mixed. Else, for more rows than there is room
-- for so, the root is chosen by all words of a key, mixed with the salt, and each row has one link: those that share a root are a chain.
abbrev pub shape : ℕ → ℕ → Shape Key ℕ
shape roots salt =
    record {
      roots = roots;
      radix = cond (eqb salt 0) 2 1;
      root = λ k. cond (eqb salt 0) (low_root k) (mix_of salt k % roots);
      first = λ k. cond (eqb salt 0) (mix_of 0 k) 0;
      digit = λ s. cond (eqb salt 0) (s % 2) 0;
      rest = λ s. s / 2;
    }

-- The tree of a table has 8192 roots, and no salt: `shape 8192 0`, with its terms worked out.
abbrev pub table_shape : Shape Key ℕ
table_shape = record { roots = 8192; radix = 2; root = low_root; first = mix_of 0; digit = λ s. s % 2; rest = λ s. s / 2 }

-- That of a packet's section has 16384.
abbrev pub packet_shape : ℕ → Shape Key ℕ
packet_shape salt = shape 16384 salt
