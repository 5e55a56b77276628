-- The published examples of SHA-256, by computation: the 32 bytes as one number, most significant byte first, as they are published.
use Rattle.std.specs.Prelude.{◌≡◌, refl}
use mathlib.Core.List.{[], ◌∷◌, flat_map}
use Rattle.definition.specs.Lists.{chunks}
use Rattle.hashing.specs.Sha256.{complement, shr, rotr, choose, majority, big_sigma0, big_sigma1, small_sigma0, small_sigma1, constants, big_bytes, zeros_due, padded, big_word, blocks_of, initial, next_word, schedule, first_sum, second_sum, turn, turns, joined, compress, hash_blocks, digest_of, sha256}

unfoldable definitions : Unit {0}
unfolding flat_map chunks complement shr rotr choose majority big_sigma0 big_sigma1 small_sigma0 small_sigma1 constants big_bytes zeros_due padded big_word blocks_of initial next_word schedule first_sum second_sum turn turns joined compress hash_blocks digest_of sha256
definitions = tt

-- "abc"
pub abc : big_word 0 (sha256 (97 ∷ 98 ∷ 99 ∷ [])) ≡ 0xba7816bf8f01cfea414140de5dae2223b00361a396177a9cb410ff61f20015ad
unfolding definitions
abc = refl

-- ""
pub empty : big_word 0 (sha256 ([])) ≡ 0xe3b0c44298fc1c149afbf4c8996fb92427ae41e4649b934ca495991b7852b855
unfolding definitions
empty = refl

-- "abcdbcdecdefdefgefghfghighijhijkijkljklmklmnlmnomnopnopq"
pub two_blocks : big_word 0 (sha256 (97 ∷ 98 ∷ 99 ∷ 100 ∷ 98 ∷ 99 ∷ 100 ∷ 101 ∷ 99 ∷ 100 ∷ 101 ∷ 102 ∷ 100 ∷ 101 ∷ 102 ∷ 103 ∷ 101 ∷ 102 ∷ 103 ∷ 104 ∷ 102 ∷ 103 ∷ 104 ∷ 105 ∷ 103 ∷ 104 ∷ 105 ∷ 106 ∷ 104 ∷ 105 ∷ 106 ∷ 107 ∷ 105 ∷ 106 ∷ 107 ∷ 108 ∷ 106 ∷ 107 ∷ 108 ∷ 109 ∷ 107 ∷ 108 ∷ 109 ∷ 110 ∷ 108 ∷ 109 ∷ 110 ∷ 111 ∷ 109 ∷ 110 ∷ 111 ∷ 112 ∷ 110 ∷ 111 ∷ 112 ∷ 113 ∷ [])) ≡ 0x248d6a61d20638b8e5c026930c3e6039a33ce45964ff2167f6ecedd419db06c1
unfolding definitions
two_blocks = refl
