-- The replies that were told are those whose pages were claimed first.
use Rattle.std.proofs.Common.{◌≡◌, ◌⊎◌, inl, inr, Result, Ok, Err, ℕ, ◌≤◌, List, [], ◌∷◌, ◌++◌, length, map, refl, sym, ap, ◌∙◌, arith, append_assoc}
use Rattle.std.specs.Prelude.{Contains}
use Rattle.std.proofs.lemmas.List.{append-nil, map-append}
use Rattle.page_claims.specs.declared.first.Claimed.{Claimed}
use Rattle.page_claims.specs.declared.first.Claimed.TheVariants.{First, Repeat, Outside}
use Rattle.page_claims.specs.Calls.{Answers, bit_number}
use Rattle.page_claims.specs.Values.{ClaimsValue, PassValue}
use Rattle.image_depot.specs.Key.{Shelves, Key, number_of}
use Rattle.image_depot.specs.Reply.{Reply, Delivery}
use Rattle.host_fetch.specs.declared.error.FetchError.{FetchError}
use Rattle.host_fetch.specs.declared.error.FetchError.TheVariants.{Wire, Memory}
use Rattle.host_fetch.specs.Asked.{AreAsked, HasAsked, HasToldFirsts, IsTold, IsUntold, Telling, bits_of, reply_with, untold_most}

-- nothing was asked for
pub firsts-none : (claims : ClaimsValue) (most : ℕ) (old new : Telling) → new ≡ old → HasToldFirsts claims most old new
firsts-none claims most old new same = record {
  told = [];
  untold = [];
  sent = ap (λ (t : Telling). t.sent) same ∙ sym (append-nil old.sent);
  firsts = ap (λ (t : Telling). t.pass.firsts) same ∙ sym (append-nil old.pass.firsts);
  few = omega arith;
}

-- a page of an image was asked for
firsts-one : (depot : Shelves) (claims : ClaimsValue) (key : Key) (page : ℕ) (claimed : Claimed) (old new : Telling) → Answers claims (number_of key) page old.pass new.pass claimed
    → IsTold depot (reply_with key page) claimed old.sent new.sent → HasToldFirsts claims 0 old new
firsts-one depot claims key page (First token) old new answers told = record {
  told = told.0 ∷ [];
  untold = [];
  sent = told.3;
  firsts =
      ap (λ (p : PassValue). p.firsts) answers.2
      ∙ ap (λ (reply : Reply). old.pass.firsts ++ (bit_number claims (number_of reply.key) reply.page ∷ [])) (sym told.2);
  few = omega arith;
}
firsts-one depot claims key page Repeat old new answers told = record {
  told = [];
  untold = [];
  sent = told ∙ sym (append-nil old.sent);
  firsts = ap (λ (p : PassValue). p.firsts) answers.1 ∙ sym (append-nil old.pass.firsts);
  few = omega arith;
}
firsts-one depot claims key page Outside old new answers told = record {
  told = [];
  untold = [];
  sent = told ∙ sym (append-nil old.sent);
  firsts = ap (λ (p : PassValue). p.firsts) answers.1 ∙ sym (append-nil old.pass.firsts);
  few = omega arith;
}

empty : (l : List ℕ) → length l ≤ 0 → l ≡ []
empty [] few = refl
empty (x ∷ l) few = absurd (omega arith)

-- where all was told so far, more may be asked for
firsts-then : (claims : ClaimsValue) (most : ℕ) (old middle new : Telling) → HasToldFirsts claims 0 old middle → HasToldFirsts claims most middle new → HasToldFirsts claims most old new
firsts-then claims most old middle new h k =
    let none : h.untold ≡ [] = empty h.untold h.few in
    let all = bits_of claims h.told in
    let more = bits_of claims k.told ++ k.untold in
    record {
      told = h.told ++ k.told;
      untold = k.untold;
      sent = k.sent ∙ ap (λ l. l ++ k.told) h.sent ∙ append_assoc old.sent h.told k.told;
      firsts =
          k.firsts ∙ ap (λ l. l ++ more) (h.firsts ∙ ap (λ l. old.pass.firsts ++ (all ++ l)) none ∙ ap (λ l. old.pass.firsts ++ l) (append-nil all))
          ∙ append_assoc old.pass.firsts all more
          ∙ ap (λ l. old.pass.firsts ++ l) (sym (append_assoc all (bits_of claims k.told) k.untold)
          ∙ ap (λ l. l ++ k.untold) (sym (map-append _ h.told k.told)));
      few = k.few;
    }

firsts-asked : (depot : Shelves) (claims : ClaimsValue) (key : Key) (pages : List ℕ) (old new : Telling) → AreAsked depot claims key pages old new → HasToldFirsts claims 0 old new
firsts-asked depot claims key [] old new same = firsts-none claims 0 old new same
firsts-asked depot claims key (page ∷ pages) old new asked =
    firsts-then claims 0 old asked.0 new (firsts-one depot claims key page asked.1.claimed old asked.0 asked.1.answers asked.1.told)
    (firsts-asked depot claims key pages asked.0 new asked.2)

-- a page was claimed whose reply nobody was told
firsts-claimed : (claims : ClaimsValue) (image page : ℕ) (claimed : Claimed) (old new : Telling) → new.sent ≡ old.sent → Answers claims image page old.pass new.pass claimed
    → HasToldFirsts claims 1 old new
firsts-claimed claims image page (First token) old new same answers = record {
  told = [];
  untold = bit_number claims image page ∷ [];
  sent = same ∙ sym (append-nil old.sent);
  firsts = ap (λ (p : PassValue). p.firsts) answers.2;
  few = omega arith;
}
firsts-claimed claims image page Repeat old new same answers = record {
  told = [];
  untold = [];
  sent = same ∙ sym (append-nil old.sent);
  firsts = ap (λ (p : PassValue). p.firsts) answers.1 ∙ sym (append-nil old.pass.firsts);
  few = omega arith;
}
firsts-claimed claims image page Outside old new same answers = record {
  told = [];
  untold = [];
  sent = same ∙ sym (append-nil old.sent);
  firsts = ap (λ (p : PassValue). p.firsts) answers.1 ∙ sym (append-nil old.pass.firsts);
  few = omega arith;
}

firsts-untold : (claims : ClaimsValue) (key : Key) (page : ℕ) (old new : Telling) → new.sent ≡ old.sent
    → (new.pass ≡ old.pass) ⊎ ((claimed : Claimed) × Answers claims (number_of key) page old.pass new.pass claimed) → HasToldFirsts claims 1 old new
firsts-untold claims key page old new same (inl pass) = record {
  told = [];
  untold = [];
  sent = same ∙ sym (append-nil old.sent);
  firsts = ap (λ (p : PassValue). p.firsts) pass ∙ sym (append-nil old.pass.firsts);
  few = omega arith;
}
firsts-untold claims key page old new same (inr claimed) = firsts-claimed claims (number_of key) page claimed.0 old new same claimed.1

firsts-last : (claims : ClaimsValue) (key : Key) (due : List ℕ) (old new : Telling) → (new ≡ old) ⊎ ((page : ℕ) × Contains due page × IsUntold claims key page old new)
    → HasToldFirsts claims 1 old new
firsts-last claims key due old new (inl same) = firsts-none claims 1 old new same
firsts-last claims key due old new (inr last) = firsts-untold claims key last.0 old new last.2.sent last.2.pass

-- a fetch that ended so
pub fetched-firsts : (depot : Shelves) (claims : ClaimsValue) (key : Key) (due : List ℕ) (r : Result (Unit {0}) FetchError) (pages : List ℕ) (old new : Telling)
    → HasAsked depot claims key due r pages old new → HasToldFirsts claims (untold_most r) old new
fetched-firsts depot claims key due (Ok done) pages old new asked = firsts-asked depot claims key pages old new asked
fetched-firsts depot claims key due (Err Wire) pages old new asked = firsts-asked depot claims key pages old new asked
fetched-firsts depot claims key due (Err Memory) pages old new partly =
    firsts-then claims 1 old partly.middle new (firsts-asked depot claims key pages old partly.middle partly.asked)
    (firsts-last claims key due partly.middle new partly.last)
