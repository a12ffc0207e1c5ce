-- Texts that are frames.
use Rattle.std.proofs.Common.{◌≡◌, codes, ℕ, zero, suc, List, [], ◌∷◌, ◌++◌, sym, ◌∙◌, ap, subst, length, ◌≤◌, ◌<◌, ◌+◌, ◌^◌, lit<, None, Some, refl, arith}
use Rattle.std.specs.Prelude.{take, drop, Option, IsSomeAnd, MatchOption}
use Rattle.std.specs.Int.{to_le_bytes, from_le_bytes, w32}
use Rattle.std.proofs.Math.ListN.{get_or}
use Rattle.byteorder.specs.Endian.{little_bytes, little_number}
use Rattle.byteorder.specs.Numbers.{little_number-reads_back, length-bytes_low_first}
use Rattle.std.proofs.lemmas.List.{take-append-drop, get_or-drop, length-take-le, length-append}
use Rattle.std.proofs.lemmas.Nat.{le_bytes_4}
use Rattle.flat_memory.proofs.ByteLists.{AreBytes}
use Rattle.page_frames.specs.declared.page.TheConstants.{PAGE_SIZE}
use Rattle.fetch_proto.specs.Frame.{frame, IsFrameOf, IsNoFrame}
use Rattle.fetch_proto.specs.declared.Frame.{Frame}

pub bytes-take : (n : ℕ) (xs : List ℕ) → AreBytes xs → AreBytes (take n xs)
bytes-take zero xs are i = lit< tt
bytes-take (suc n) [] are i = lit< tt
bytes-take (suc n) (x ∷ xs) are zero = are 0
bytes-take (suc n) (x ∷ xs) are (suc i) = bytes-take n xs (λ j. are (suc j)) i

pub bytes-drop : (n : ℕ) (xs : List ℕ) → AreBytes xs → AreBytes (drop n xs)
bytes-drop n xs are i = subst (λ x. x < 256) (sym (get_or-drop n xs i 0)) (are (n + i))

-- the four bytes of a number that was read from them
pub word-back : (xs word : List ℕ) (n : ℕ) → AreBytes xs → 4 ≤ length xs → word ≡ take 4 xs → n ≡ from_le_bytes w32 word → to_le_bytes w32 n ≡ word
word-back xs word n are enough is read =
    le_bytes_4 word n (ap length is ∙ length-take-le 4 xs enough) (subst AreBytes (sym is) (bytes-take 4 xs are)) read

-- a text is its first part and what is left
pub in_two : (n : ℕ) (xs first rest : List ℕ) → first ≡ take n xs → rest ≡ drop n xs → xs ≡ first ++ rest
in_two n xs first rest is left = sym (take-append-drop n xs) ∙ (ap (λ ys. ys ++ drop n xs) (sym is) ∙ ap (λ ys. first ++ ys) (sym left))

-- the same in four
pub in_four : (n : ℕ) (xs one beyond two beyond-two three rest : List ℕ) → one ≡ take n xs → beyond ≡ drop n xs → two ≡ take n beyond → beyond-two ≡ drop n beyond
    → three ≡ take n beyond-two → rest ≡ drop n beyond-two → xs ≡ one ++ (two ++ (three ++ rest))
in_four n xs one beyond two beyond-two three rest a b c d e f =
    in_two n xs one beyond a b ∙ ap (λ ys. one ++ ys) (in_two n beyond two beyond-two c d ∙ ap (λ ys. two ++ ys) (in_two n beyond-two three rest e f))

-- a text of the four parts of a frame is that frame
pub framed : (bytes magic image page rest content : List ℕ) (i p : ℕ) → bytes ≡ magic ++ (image ++ (page ++ rest)) → codes "SFR1" ≡ magic
    → little_bytes 4 i ≡ image → little_bytes 4 p ≡ page → content ≡ rest → bytes ≡ frame i p content
unfolding frame
framed bytes magic image page rest content i p four a b c d =
    four ∙ (ap (λ xs. xs ++ (image ++ (page ++ rest))) (sym a)
    ∙ ap (λ ys. codes "SFR1" ++ ys) (ap (λ xs. xs ++ (page ++ rest)) (sym b)
    ∙ ap (λ ys. little_bytes 4 i ++ ys) (ap (λ xs. xs ++ rest) (sym c) ∙ ap (λ ys. little_bytes 4 p ++ ys) (sym d))))

-- the mark of a frame
pub mark : (image page : ℕ) (content : List ℕ) → take 4 (frame image page content) ≡ codes "SFR1"
unfolding frame
mark image page content = refl

-- a frame has twelve bytes before those of the page
pub length_frame : (image page : ℕ) (content : List ℕ) → length (frame image page content) ≡ 12 + length content
unfolding frame
length_frame image page content = omega arith

image_read : (image page : ℕ) (content : List ℕ) → image < 2 ^ 32 → little_number 4 (drop 4 (frame image page content)) ≡ image
unfolding frame
image_read image page content below = little_number-reads_back 4 image (little_bytes 4 page ++ content) below

page_read : (image page : ℕ) (content : List ℕ) → page < 2 ^ 32 → little_number 4 (drop 8 (frame image page content)) ≡ page
unfolding frame
page_read image page content below = little_number-reads_back 4 page content below

content_read : (image page : ℕ) (content : List ℕ) → drop 12 (frame image page content) ≡ content
unfolding frame
content_read image page content = refl

-- a frame is read as it was
pub told : (bytes : List ℕ) (found : Option Frame) → MatchOption found (IsNoFrame bytes) (λ f. IsFrameOf bytes f.image f.page f.bytes.now)
    → (image page : ℕ) (content : List ℕ) → image < 2 ^ 32 → page < 2 ^ 32 → length content ≡ PAGE_SIZE → bytes ≡ frame image page content
    → IsSomeAnd found (λ f. (f.image ≡ image) × (f.page ≡ page) × (f.bytes.now ≡ content))
told bytes None none image page content i p whole is = absurd (none image page content whole is)
told bytes (Some f) f-is image page content i p whole is =
    let same : frame f.image f.page f.bytes.now ≡ frame image page content = sym f-is.is ∙ is in (
      sym (image_read f.image f.page f.bytes.now f-is.image_fits) ∙ (ap (λ xs. little_number 4 (drop 4 xs)) same ∙ image_read image page content i),
      sym (page_read f.image f.page f.bytes.now f-is.page_fits) ∙ (ap (λ xs. little_number 4 (drop 8 xs)) same ∙ page_read image page content p),
      sym (content_read f.image f.page f.bytes.now) ∙ (ap (λ xs. drop 12 xs) same ∙ content_read image page content),
    )
