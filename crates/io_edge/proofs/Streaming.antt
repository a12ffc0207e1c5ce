-- Bytes on their way to a sink, one piece after another.
use Rattle.std.proofs.Common.{append-nil, take-append-drop, ◌≡◌, ℕ, ◌+◌, ◌<◌, List, [], ◌∷◌, ◌++◌, get_or, length, take, drop, Option, Result, Ok, Err, OnOk, refl, sym, ap, ◌∙◌, subst, append_assoc}
use Rattle.std.specs.List.{flat_map}
use Rattle.std.proofs.lemmas.List.{drop_more, take_more}
use Rattle.std.proofs.lemmas.Grind.{flat_map-append}
use Rattle.io_edge.specs.declared.outside.WriteFault.{WriteFault}
use Rattle.io_edge.specs.Outside.{appended, IsPrefixGone}
use Rattle.io_edge.specs.Streamed.{IsPartGone, Streams}
use Rattle.io_edge.proofs.Gone.{appended-appended, appended-nothing, IsPrefixGone-front, IsPrefixGone-after}

-- all of the bytes wait
pub all_wait : (gone : Option (List ℕ)) (before text after : List ℕ) (done : Unit {0}) → after ≡ before ++ text → Streams gone gone before text after (Ok done)
all_wait gone before text after done is = record {
  ok = record { part = []; gone = sym (appended-nothing gone); rest = is };
  prefix = tt;
  empty = tt;
}

-- what waited is out, and nothing has come
pub emptied : (old new : Option (List ℕ)) (before : List ℕ) → new ≡ appended old before → Streams old new before [] [] (Ok tt)
emptied old new before is = record {
  ok = record { part = before; gone = is; rest = refl };
  prefix = tt;
  empty = tt;
}

-- nothing waits, and a text is put out as it lies
pub as_it_lies : (old new : Option (List ℕ)) (text : List ℕ) (r : Result Unit WriteFault) → OnOk r (new ≡ appended old text) → IsPrefixGone old new text
    → Streams old new [] text [] r
as_it_lies old new text (Ok done) is prefix = record {
  ok = record { part = text; gone = is; rest = append-nil text };
  prefix = tt;
  empty = tt;
}
as_it_lies old new text (Err fault) is prefix = record { ok = tt; prefix = prefix; empty = refl }

-- what waits is put out too
pub flushed : {old mid new : Option (List ℕ)} {before text waiting : List ℕ} {done : Unit {0}} → Streams old mid before text waiting (Ok done)
    → new ≡ appended mid waiting → new ≡ appended old (before ++ text)
flushed {old} {mid} {new} {before} {text} {waiting} first is =
    is ∙ ap (λ gone. appended gone waiting) first.ok.gone ∙ appended-appended old first.ok.part waiting ∙ ap (appended old) first.ok.rest

-- a prefix of what waits is put out
pub flushed-part : {old mid new : Option (List ℕ)} {before text waiting : List ℕ} {done : Unit {0}} → Streams old mid before text waiting (Ok done)
    → IsPrefixGone mid new waiting → IsPrefixGone old new (before ++ text)
flushed-part {old} {mid} {new} {before} {text} {waiting} first part =
    subst (IsPrefixGone old new) first.ok.rest (IsPrefixGone-after old mid new first.ok.part waiting first.ok.gone part)

-- more comes behind a first text
pub then : {old mid new : Option (List ℕ)} {before text waiting more after : List ℕ} {done : Unit {0}} {r : Result Unit WriteFault}
    → Streams old mid before text waiting (Ok done) → Streams mid new waiting more after r → Streams old new before (text ++ more) after r
then {old} {mid} {new} {before} {text} {waiting} {more} {after} {r = Ok done} first next = record {
  ok = record {
    part = first.ok.part ++ next.ok.part;
    gone = next.ok.gone ∙ ap (λ gone. appended gone next.ok.part) first.ok.gone ∙ appended-appended old first.ok.part next.ok.part;
    rest =
        append_assoc first.ok.part next.ok.part after ∙ ap (λ rest. first.ok.part ++ rest) next.ok.rest
        ∙ sym (append_assoc first.ok.part waiting more) ∙ ap (λ bytes. bytes ++ more) first.ok.rest ∙ append_assoc before text more;
  };
  prefix = tt;
  empty = tt;
}
then {old} {mid} {new} {before} {text} {waiting} {more} {after} {r = Err fault} first next = record {
  ok = tt;
  prefix =
      subst (IsPrefixGone old new)
      (sym (append_assoc first.ok.part waiting more) ∙ ap (λ bytes. bytes ++ more) first.ok.rest ∙ append_assoc before text more)
      (IsPrefixGone-after old mid new first.ok.part (waiting ++ more) first.ok.gone next.prefix);
  empty = next.empty;
}

-- a first text had a fault, and no more comes
pub stops : {old new : Option (List ℕ)} {before text after : List ℕ} {fault : WriteFault} (more : List ℕ)
    → Streams old new before text after (Err fault) → Streams old new before (text ++ more) after (Err fault)
stops {old} {new} {before} {text} more first = record {
  ok = tt;
  prefix = subst (IsPrefixGone old new) (append_assoc before text more) (IsPrefixGone-front old new (before ++ text) more first.prefix);
  empty = first.empty;
}

-- ---- a list of things, each of which has a text

module _ {A : Type 0} (text : A → List ℕ) where
  up_to : (xs : List A) (i : ℕ) (x : A) → i < length xs → x ≡ get_or xs i x → flat_map text (take (i + 1) xs) ≡ flat_map text (take i xs) ++ text x
  up_to xs i x within is =
      ap (flat_map text) (take_more xs i x within) ∙ flat_map-append text (take i xs) (get_or xs i x ∷ [])
      ∙ ap (λ last. flat_map text (take i xs) ++ last) (append-nil (text (get_or xs i x)) ∙ ap text (sym is))

  around : (xs : List A) (i : ℕ) (x : A) → i < length xs → x ≡ get_or xs i x → flat_map text xs ≡ flat_map text (take i xs) ++ (text x ++ flat_map text (drop (i + 1) xs))
  around xs i x within is =
      ap (flat_map text) (sym (take-append-drop i xs)) ∙ flat_map-append text (take i xs) (drop i xs)
      ∙ ap (λ rest. flat_map text (take i xs) ++ rest)
      (ap (flat_map text) (drop_more xs i x within) ∙ ap (λ first. text first ++ flat_map text (drop (i + 1) xs)) (sym is))

  -- one more of them
  pub one_more : {old mid new : Option (List ℕ)} {before waiting after : List ℕ} {done then_done : Unit {0}} (xs : List A) (i : ℕ) (x : A) → i < length xs → x ≡ get_or xs i x
      → Streams old mid before (flat_map text (take i xs)) waiting (Ok done) → Streams mid new waiting (text x) after (Ok then_done)
      → Streams old new before (flat_map text (take (i + 1) xs)) after (Ok tt)
  one_more {old} {mid} {new} {before} {waiting} {after} xs i x within is first next =
      subst (λ all. Streams old new before all after (Ok tt)) (sym (up_to xs i x within is)) (then first next)

  -- a fault at one of them
  pub stops_at : {old mid new : Option (List ℕ)} {before waiting after : List ℕ} {done : Unit {0}} {fault : WriteFault} (xs : List A) (i : ℕ) (x : A) → i < length xs → x ≡ get_or xs i x
      → Streams old mid before (flat_map text (take i xs)) waiting (Ok done) → Streams mid new waiting (text x) after (Err fault)
      → Streams old new before (flat_map text xs) after (Err fault)
  stops_at {old} {mid} {new} {before} {waiting} {after} {done} {fault} xs i x within is first next =
      subst (λ all. Streams old new before all after (Err fault)) (sym (around xs i x within is))
      (then first (stops (flat_map text (drop (i + 1) xs)) next))
