-- Lines and scripts are read as they are written.
use Rattle.std.proofs.Common.{◌≡◌, ℕ, ◌+◌, ◌^◌, ◌<◌, ◌≤◌, nat_lt, Bool, true, false, cond, refl, sym, ap, ap₂, ◌∙◌, subst, arith, List, [], ◌∷◌, ◌++◌}
use Rattle.std.proofs.Common.{length, get_or, codes, Option, Some, None, Result, Ok, Err}
use borrow.Author.Tests.{ltb-true}
use Rattle.std.proofs.lemmas.List.Elements.{All-append, All-nil}
use Rattle.std.proofs.lemmas.List.Splits.{join_with_byte-slice_split}
use Rattle.std.proofs.lemmas.List.Sums.{AllPass-from_list_all}
use Rattle.std.proofs.lemmas.Slice.Eq.{bytes_eq-Decides}
use Rattle.std.specs.Fmt.{decimal}
use Rattle.std.specs.List.{All, flat_map, join_with_byte, list_all}
use Rattle.std.specs.Str.{bytes_eq}
use Rattle.forest_tree.specs.Tree.{Branch, Path}
use Rattle.machine_names.specs.Name.{branch_text, name_text}
use Rattle.drive_script.specs.declared.line.Word.{Word}
use Rattle.drive_script.specs.declared.line.Word.TheVariants.{Step, Ask, Push, Give, Peek, Regs}
use Rattle.drive_script.specs.declared.error.TheConstants.{BAD_ADDRESS, BAD_NUMBER}
use Rattle.drive_script.specs.declared.line.TheConstants.{MAX_PAGE, MAX_PLACE, MAX_STEPS}
use Rattle.drive_script.specs.Script.{ScriptLine, step, ask, push, give, peek, regs, address_of, addressed, fields, line_before, line_by, line_named}
use Rattle.drive_script.specs.Script.{line_of, line_valued, lines_from, name_of, named, named_by, number_within, numbered, one_of, parts, script}
use Rattle.drive_script.specs.Script.{two_of, valued_by, with_word, word_of}
use Rattle.drive_script.specs.Told.{word_text}
use Rattle.drive_script.specs.Written.{AreForks, AreInForm, IsFork, IsInForm, IsTextOf, line_text, script_text}
use Rattle.drive_script.proofs.Scripts.{after_lines, after-nothing, lines_from-more}
use Rattle.drive_script.proofs.WrittenNames.{decimal-above, free-above, name-spelled, name-written, parts-first, parts-last, within-decimal, within-spelled}
use Rattle.drive_script.proofs.WrittenWords.{word-above, word-spelled, word-written}

-- ---- bytes that do not separate

weaker : (least most : ℕ) (text : List ℕ) → least ≤ most → All (λ x. most < x) text → All (λ x. least < x) text
weaker least most text low h = λ k d l. (let above = h k d l in omega arith)

-- of a literal
above-test : (least : ℕ) (text : List ℕ) → list_all (nat_lt least) text ≡ true → All (λ x. least < x) text
above-test least text h = λ k d l. ltb-true least (get_or text k d) (AllPass-from_list_all (nat_lt least) text h k d l)

branch-above : (b : Branch) → IsFork b → All (λ x. 45 < x) (branch_text b)
branch-above b is =
    let dot = above-test 45 (codes ".") refl in
    let ticket = weaker 45 47 (decimal b.ticket) (omega arith) (decimal-above b.ticket is.ticket_to) in
    let child = weaker 45 47 (decimal b.child) (omega arith) (decimal-above b.child is.child_to) in
    All-append (λ x. 45 < x) (codes ".") (decimal b.ticket ++ (codes "." ++ decimal b.child)) dot
    (All-append (λ x. 45 < x) (decimal b.ticket) (codes "." ++ decimal b.child) ticket (All-append (λ x. 45 < x) (codes ".") (decimal b.child) dot child))

forks-above : (path : Path) → AreForks path → All (λ x. 45 < x) (flat_map branch_text path)
forks-above [] is = All-nil (λ x. 45 < x)
forks-above (b ∷ rest) is = All-append (λ x. 45 < x) (branch_text b) (flat_map branch_text rest) (branch-above b is.0) (forks-above rest is.1)

name-above : (path : Path) → AreForks path → All (λ x. 45 < x) (name_text path)
name-above path is = All-append (λ x. 45 < x) (codes "0") (flat_map branch_text path) (above-test 45 (codes "0") refl) (forks-above path is)

-- ---- lines

three-fields : (word name last : List ℕ) → All (λ x. 45 < x) word → All (λ x. 45 < x) name → All (λ x. 45 < x) last
    → fields (word ++ (32 ∷ (name ++ (32 ∷ last)))) ≡ word ∷ (name ∷ (last ∷ []))
three-fields word name last a b c =
    parts-first 32 word (name ++ (32 ∷ last)) (free-above 45 32 word (omega arith) a)
    ∙ ap (λ more. word ∷ more) (parts-first 32 name last (free-above 45 32 name (omega arith) b)
    ∙ ap (λ more. name ∷ more) (parts-last 32 last (free-above 45 32 last (omega arith) c)))

two-fields : (word name : List ℕ) → All (λ x. 45 < x) word → All (λ x. 45 < x) name → fields (word ++ (32 ∷ name)) ≡ word ∷ (name ∷ [])
two-fields word name a b =
    parts-first 32 word name (free-above 45 32 word (omega arith) a) ∙ ap (λ more. word ∷ more) (parts-last 32 name (free-above 45 32 name (omega arith) b))

line-numbered : (word : List ℕ) (make : Path → ℕ → ScriptLine) (path : Path) (most n : ℕ) → All (λ x. 45 < x) word → AreForks path → n ≤ most → most < 2 ^ 32
    → ((texts : List (List ℕ)) → line_by (word ∷ texts) ≡ line_valued make (numbered most (two_of texts)))
    → line_by (fields (word ++ (32 ∷ (name_text path ++ (32 ∷ decimal n))))) ≡ Ok (make path n)
line-numbered word make path most n free forks within small is =
    let number = weaker 45 47 (decimal n) (omega arith) (decimal-above n (omega (arith, within, small))) in
    ap line_by (three-fields word (name_text path) (decimal n) free (name-above path forks) number)
    ∙ is (name_text path ∷ (decimal n ∷ []))
    ∙ ap₂ (λ a b. line_valued make (valued_by BAD_NUMBER a b)) (name-written path forks) (within-decimal 0 most n (omega arith) within (omega (arith, within, small)))

line-only-named : (word : List ℕ) (make : Path → ScriptLine) (path : Path) → All (λ x. 45 < x) word → AreForks path
    → ((texts : List (List ℕ)) → line_by (word ∷ texts) ≡ line_named make (named (one_of texts)))
    → line_by (fields (word ++ (32 ∷ name_text path))) ≡ Ok (make path)
line-only-named word make path free forks is =
    ap line_by (two-fields word (name_text path) free (name-above path forks))
    ∙ is (name_text path ∷ [])
    ∙ ap (λ a. line_named make (named_by a)) (name-written path forks)

line-written : (line : ScriptLine) → IsInForm line → line_of (line_text line) ≡ Ok line
unfolding line_of
line-written (step path most) is = line-numbered (codes "step") step path MAX_STEPS most (above-test 45 (codes "step") refl) is.0 is.1 (omega arith) (λ texts. refl)
line-written (ask path) is = line-only-named (codes "ask") ask path (above-test 45 (codes "ask") refl) is (λ texts. refl)
line-written (push path page) is = line-numbered (codes "push") push path MAX_PAGE page (above-test 45 (codes "push") refl) is.0 is.1 (omega arith) (λ texts. refl)
line-written (give path place) is = line-numbered (codes "give") give path MAX_PLACE place (above-test 45 (codes "give") refl) is.0 is.1 (omega arith) (λ texts. refl)
line-written (peek path address) is =
    let digits = weaker 45 47 (word_text address) (omega arith) (word-above address) in
    ap line_by (three-fields (codes "peek") (name_text path) (word_text address) (above-test 45 (codes "peek") refl) (name-above path is.0) digits)
    ∙ ap₂ (λ a b. line_valued peek (valued_by BAD_ADDRESS a b)) (name-written path is.0) (word-written address is.1)
line-written (regs path) is = line-only-named (codes "regs") regs path (above-test 45 (codes "regs") refl) is (λ texts. refl)

-- ---- scripts

numbered-above : (word : List ℕ) (path : Path) (n : ℕ) → All (λ x. 31 < x) word → AreForks path → n < 2 ^ 32
    → All (λ x. 31 < x) (word ++ (name_text path ++ (codes " " ++ decimal n)))
numbered-above word path n free forks small =
    All-append (λ x. 31 < x) word (name_text path ++ (codes " " ++ decimal n)) free
    (All-append (λ x. 31 < x) (name_text path) (codes " " ++ decimal n) (weaker 31 45 (name_text path) (omega arith) (name-above path forks))
    (All-append (λ x. 31 < x) (codes " ") (decimal n) (above-test 31 (codes " ") refl) (weaker 31 47 (decimal n) (omega arith) (decimal-above n small))))

named-above : (word : List ℕ) (path : Path) → All (λ x. 31 < x) word → AreForks path → All (λ x. 31 < x) (word ++ name_text path)
named-above word path free forks = All-append (λ x. 31 < x) word (name_text path) free (weaker 31 45 (name_text path) (omega arith) (name-above path forks))

line-above : (line : ScriptLine) → IsInForm line → All (λ x. 31 < x) (line_text line)
line-above (step path most) is = numbered-above (codes "step ") path most (above-test 31 (codes "step ") refl) is.0 (omega (arith, is.1))
line-above (ask path) is = named-above (codes "ask ") path (above-test 31 (codes "ask ") refl) is
line-above (push path page) is = numbered-above (codes "push ") path page (above-test 31 (codes "push ") refl) is.0 (omega (arith, is.1))
line-above (give path place) is = numbered-above (codes "give ") path place (above-test 31 (codes "give ") refl) is.0 (omega (arith, is.1))
line-above (peek path address) is =
    All-append (λ x. 31 < x) (codes "peek ") (name_text path ++ (codes " " ++ word_text address)) (above-test 31 (codes "peek ") refl)
    (All-append (λ x. 31 < x) (name_text path) (codes " " ++ word_text address) (weaker 31 45 (name_text path) (omega arith) (name-above path is.0))
    (All-append (λ x. 31 < x) (codes " ") (word_text address) (above-test 31 (codes " ") refl) (weaker 31 47 (word_text address) (omega arith) (word-above address))))
line-above (regs path) is = named-above (codes "regs ") path (above-test 31 (codes "regs ") refl) is

line-long : (line : ScriptLine) → 0 < length (line_text line)
line-long (step path most) = omega arith
line-long (ask path) = omega arith
line-long (push path page) = omega arith
line-long (give path place) = omega arith
line-long (peek path address) = omega arith
line-long (regs path) = omega arith

texts-read : (number : ℕ) (lines : List ScriptLine) → AreInForm lines → lines_from number (parts 10 (script_text lines)) ≡ Ok lines
unfolding script_text lines_from
texts-read number [] is = refl
texts-read number (line ∷ rest) is =
    ap (lines_from number) (parts-first 10 (line_text line) (script_text rest) (free-above 31 10 (line_text line) (omega arith) (line-above line is.0)))
    ∙ sym (after-nothing (lines_from number (line_text line ∷ parts 10 (script_text rest))))
    ∙ lines_from-more [] number (line_text line) line (parts 10 (script_text rest)) (line-long line) (line-written line is.0)
    ∙ ap (after_lines (line ∷ [])) (texts-read (number + 1) rest is.1)

pub script-written : (lines : List ScriptLine) → AreInForm lines → script (script_text lines) ≡ Ok lines
unfolding script
script-written lines is = texts-read 1 lines is

-- ---- the texts of lines

valued-parts : (kind : ℕ) (make : Path → ℕ → ScriptLine) (a : Option Path) (b : Option ℕ) (line : ScriptLine) → line_valued make (valued_by kind a b) ≡ Ok line
    → (path : Path) × (value : ℕ) × (a ≡ Some path) × (b ≡ Some value) × (make path value ≡ line)
valued-parts kind make None b line h = cc h
valued-parts kind make (Some path) None line h = cc h
valued-parts kind make (Some path) (Some value) line h = (path, value, refl, refl, cc h)

named-parts : (make : Path → ScriptLine) (a : Option Path) (line : ScriptLine) → line_named make (named_by a) ≡ Ok line → (path : Path) × (a ≡ Some path) × (make path ≡ line)
named-parts make None line h = cc h
named-parts make (Some path) line h = (path, refl, cc h)

abbrev spelling : Word → List ℕ
spelling Step = codes "step"
spelling Ask = codes "ask"
spelling Push = codes "push"
spelling Give = codes "give"
spelling Peek = codes "peek"
spelling Regs = codes "regs"

-- the first of some words that a text is
first-word : (word : List ℕ) (is : Bool) (v w : Word) (rest : Option Word) → (is ≡ true → word ≡ spelling v) → (rest ≡ Some w → word ≡ spelling w)
    → cond is (Some v) rest ≡ Some w → word ≡ spelling w
first-word word true v w rest a b h = (let same : v ≡ w = cc h in subst (λ u. word ≡ spelling u) same (a refl))
first-word word false v w rest a b h = b h

no-word : (word : List ℕ) (w : Word) → None ≡ Some w → word ≡ spelling w
no-word word w h = cc h

word-is : (word : List ℕ) (w : Word) → word_of word ≡ Some w → word ≡ spelling w
word-is word w =
    first-word word (bytes_eq word (codes "step")) Step w _ (bytes_eq-Decides word (codes "step")).0
    (first-word word (bytes_eq word (codes "ask")) Ask w _ (bytes_eq-Decides word (codes "ask")).0
    (first-word word (bytes_eq word (codes "push")) Push w _ (bytes_eq-Decides word (codes "push")).0
    (first-word word (bytes_eq word (codes "give")) Give w _ (bytes_eq-Decides word (codes "give")).0
    (first-word word (bytes_eq word (codes "peek")) Peek w _ (bytes_eq-Decides word (codes "peek")).0
    (first-word word (bytes_eq word (codes "regs")) Regs w None (bytes_eq-Decides word (codes "regs")).0 (no-word word w))))))

-- what a text tells of the line that it is
abbrev pub IsRead : List ℕ → ScriptLine → Type 0
IsRead text line = IsInForm line × IsTextOf text line

abbrev joined : List (List ℕ) → List ℕ
joined texts = join_with_byte 32 texts

numbered-read : (spelled : List ℕ) (make : Path → ℕ → ScriptLine) (most : ℕ) (word : List ℕ) (texts : List (List ℕ)) (line : ScriptLine)
    → ((path : Path) (n : ℕ) (text : List ℕ) → AreForks path → n ≤ most → text ≡ spelled ++ (32 ∷ (name_text path ++ (32 ∷ decimal n))) → IsRead text (make path n))
    → word ≡ spelled → line_valued make (numbered most (two_of texts)) ≡ Ok line → IsRead (joined (word ∷ texts)) line
numbered-read spelled make most word [] line read w h = cc h
numbered-read spelled make most word (name ∷ []) line read w h = cc h
numbered-read spelled make most word (name ∷ (last ∷ (more ∷ rest))) line read w h = cc h
numbered-read spelled make most word (name ∷ (last ∷ [])) line read w h =
    let is = valued-parts BAD_NUMBER make (name_of name) (number_within 0 most last) line h in
    let named = name-spelled name is.0 is.2 in
    let number = within-spelled 0 most last is.1 is.3 in
    let text = ap₂ (λ a b. a ++ (32 ∷ b)) w (ap₂ (λ a b. a ++ (32 ∷ b)) named.0 number.0) in
    subst (IsRead (joined (word ∷ (name ∷ (last ∷ []))))) is.4 (read is.0 is.1 _ named.1 number.3 text)

peek-read : (word : List ℕ) (texts : List (List ℕ)) (line : ScriptLine) → word ≡ codes "peek" → line_valued peek (addressed (two_of texts)) ≡ Ok line → IsRead (joined (word ∷ texts)) line
peek-read word [] line w h = cc h
peek-read word (name ∷ []) line w h = cc h
peek-read word (name ∷ (last ∷ (more ∷ rest))) line w h = cc h
peek-read word (name ∷ (last ∷ [])) line w h =
    let is = valued-parts BAD_ADDRESS peek (name_of name) (address_of last) line h in
    let named = name-spelled name is.0 is.2 in
    let address = word-spelled last is.1 is.3 in
    let text = ap₂ (λ a b. a ++ (32 ∷ (b ++ (32 ∷ last)))) w named.0 in
    subst (IsRead (joined (word ∷ (name ∷ (last ∷ []))))) is.4 ((named.1, address.1), (last, text, address.0))

named-read : (spelled : List ℕ) (make : Path → ScriptLine) (word : List ℕ) (texts : List (List ℕ)) (line : ScriptLine)
    → ((path : Path) (text : List ℕ) → AreForks path → text ≡ spelled ++ (32 ∷ name_text path) → IsRead text (make path))
    → word ≡ spelled → line_named make (named (one_of texts)) ≡ Ok line → IsRead (joined (word ∷ texts)) line
named-read spelled make word [] line read w h = cc h
named-read spelled make word (name ∷ (more ∷ rest)) line read w h = cc h
named-read spelled make word (name ∷ []) line read w h =
    let is = named-parts make (name_of name) line h in
    let named = name-spelled name is.0 is.1 in
    let text = ap₂ (λ a b. a ++ (32 ∷ b)) w named.0 in
    subst (IsRead (joined (word ∷ (name ∷ [])))) is.2 (read is.0 _ named.1 text)

worded-read : (word : List ℕ) (texts : List (List ℕ)) (line : ScriptLine) (w : Option Word) → word_of word ≡ w → with_word w texts ≡ Ok line → IsRead (joined (word ∷ texts)) line
worded-read word texts line None e h = cc h
worded-read word texts line (Some Step) e h = numbered-read (codes "step") step MAX_STEPS word texts line (λ path n text forks within is. ((forks, within), is)) (word-is word Step e) h
worded-read word texts line (Some Ask) e h = named-read (codes "ask") ask word texts line (λ path text forks is. (forks, is)) (word-is word Ask e) h
worded-read word texts line (Some Push) e h = numbered-read (codes "push") push MAX_PAGE word texts line (λ path n text forks within is. ((forks, within), is)) (word-is word Push e) h
worded-read word texts line (Some Give) e h = numbered-read (codes "give") give MAX_PLACE word texts line (λ path n text forks within is. ((forks, within), is)) (word-is word Give e) h
worded-read word texts line (Some Peek) e h = peek-read word texts line (word-is word Peek e) h
worded-read word texts line (Some Regs) e h = named-read (codes "regs") regs word texts line (λ path text forks is. (forks, is)) (word-is word Regs e) h

fields-read : (texts : List (List ℕ)) (line : ScriptLine) → line_by texts ≡ Ok line → IsRead (joined texts) line
fields-read [] line h = cc h
fields-read (word ∷ texts) line h = worded-read word texts line (word_of word) refl h

pub line-read : (text : List ℕ) (line : ScriptLine) → line_of text ≡ Ok line → IsRead text line
unfolding line_of
line-read text line h = subst (λ bytes. IsRead bytes line) (join_with_byte-slice_split 32 text) (fields-read (fields text) line h)

-- ---- the lines of scripts

before-parts : (number : ℕ) (read : Result ScriptLine ℕ) (rest : Result (List ScriptLine) (ℕ × ℕ)) (lines : List ScriptLine) → line_before number read rest ≡ Ok lines
    → (line : ScriptLine) × (others : List ScriptLine) × (read ≡ Ok line) × (rest ≡ Ok others) × (line ∷ others ≡ lines)
before-parts number (Err kind) rest lines h = cc h
before-parts number (Ok line) (Err refusal) lines h = cc h
before-parts number (Ok line) (Ok others) lines h = (line, others, refl, refl, cc h)

texts-in-form : (number : ℕ) (texts : List (List ℕ)) (lines : List ScriptLine) → lines_from number texts ≡ Ok lines → AreInForm lines
unfolding lines_from
texts-in-form number [] lines h = (let none : [] ≡ lines = cc h in subst AreInForm none tt)
texts-in-form number ([] ∷ rest) lines h = texts-in-form (number + 1) rest lines h
texts-in-form number ((byte ∷ bytes) ∷ rest) lines h =
    let is = before-parts number (line_of (byte ∷ bytes)) (lines_from (number + 1) rest) lines h in
    subst AreInForm is.4 ((line-read (byte ∷ bytes) is.0 is.2).0, texts-in-form (number + 1) rest is.1 is.3)

pub script-in-form : (text : List ℕ) (lines : List ScriptLine) → script text ≡ Ok lines → AreInForm lines
unfolding script
script-in-form text lines h = texts-in-form 1 (parts 10 text) lines h
