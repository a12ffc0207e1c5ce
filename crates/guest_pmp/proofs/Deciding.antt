-- The first entry that matches, looked for entry by entry.
use Rattle.std.proofs.Common.{◌≡◌, ℕ, ◌+◌, ◌<◌, ◌≤◌, add-one, Bool, true, false, List, [], ◌∷◌, length, get_or, drop, Option, Some, None, refl, ap, ◌/◌, arith, drop-cons}
use Rattle.std.proofs.lemmas.List.{drop_all}
use Rattle.std.specs.Prelude.{cond}
use Rattle.std.specs.Option.{option_map}
use Rattle.guest_pmp.specs.declared.registers.PmpRegisters.{PmpRegisters}
use Rattle.std.specs.List.{list_any}
use Rattle.guest_pmp.specs.declared.access.Access.{Access}
use Rattle.guest_pmp.specs.declared.access.Mode.TheVariants.{Machine}
use Rattle.guest_pmp.specs.Registers.{has_lock, is_locked}
use Rattle.guest_pmp.specs.Allowed.{allowed, decided}
use Rattle.guest_pmp.specs.Regions.{Entry, deciding, deciding_from, entry_of, has}
use Rattle.guest_pmp.proofs.Words.{has-alike}

configuration-entry_of : (byte below word : ℕ) → (entry_of byte below word).configuration ≡ byte
configuration-entry_of byte below word = grind arith

pub matches_here : (address below i : ℕ) (bytes words : List ℕ) → i < length bytes → i < length words
    → has address (entry_of (get_or bytes i 0) below (get_or words i 0)) ≡ true → deciding_from below (drop i bytes) (drop i words) address ≡ Some (get_or bytes i 0)
matches_here address below i bytes words in_bytes in_words h = rw (drop-cons bytes i 0, drop-cons words i 0, h) (ap Some (configuration-entry_of (get_or bytes i 0) below (get_or words i 0)))

pub matches_behind : (address below i : ℕ) (bytes words : List ℕ) → i < length bytes → i < length words
    → has address (entry_of (get_or bytes i 0) below (get_or words i 0)) ≡ false
    → deciding_from below (drop i bytes) (drop i words) address ≡ deciding_from (get_or words i 0) (drop (i + 1) bytes) (drop (i + 1) words) address
matches_behind address below i bytes words in_bytes in_words h = rw (drop-cons bytes i 0, drop-cons words i 0, h, add-one i)

-- the choice of the first entry that matches, by two tests that are the same
decided_at : (p q : Bool) → p ≡ q → (byte : ℕ) (e : Entry) (x y : Option Entry) → e.configuration ≡ byte
    → option_map (λ (s : Entry). s.configuration) x ≡ option_map (λ (s : Entry). s.configuration) y
    → option_map (λ (s : Entry). s.configuration) (cond p (Some e) x) ≡ option_map (λ (s : Entry). s.configuration) (cond q (Some e) y)
decided_at true q h byte e x y same behind = rw (← h) refl
decided_at false q h byte e x y same behind = rw (← h) behind

deciding_from-alike : (below a b : ℕ) (bytes words : List ℕ) → a / 4 ≡ b / 4 → deciding_from below bytes words a ≡ deciding_from below bytes words b
deciding_from-alike below a b [] words e = refl
deciding_from-alike below a b (byte ∷ bytes) [] e = refl
deciding_from-alike below a b (byte ∷ bytes) (word ∷ words) e =
    let here : has a (entry_of byte below word) ≡ has b (entry_of byte below word) = has-alike (entry_of byte below word) a b e in
    let behind : deciding_from word bytes words a ≡ deciding_from word bytes words b = deciding_from-alike word a b bytes words e in
    decided_at (has a (entry_of byte below word)) (has b (entry_of byte below word)) here byte (entry_of byte below word) _ _ (configuration-entry_of byte below word) behind

pub deciding-alike : (r : PmpRegisters) (a b : ℕ) → a / 4 ≡ b / 4 → deciding r a ≡ deciding r b
unfolding deciding
deciding-alike r a b e = deciding_from-alike 0 a b r.configurations r.addresses e

pub matches_nowhere : (address below i : ℕ) (bytes words : List ℕ) → length bytes ≤ i → deciding_from below (drop i bytes) (drop i words) address ≡ None
matches_nowhere address below i bytes words h = rw (drop_all i bytes h)

-- machine mode, by the choice of the first entry that matches
free_at : (p : Bool) (access : Access) (byte : ℕ) (e : Entry) (x : Option Entry) → e.configuration ≡ byte → is_locked byte ≡ false
    → decided (option_map (λ (s : Entry). s.configuration) x) access Machine ≡ true → decided (option_map (λ (s : Entry). s.configuration) (cond p (Some e) x)) access Machine ≡ true
free_at true access byte e x same free behind = rw (same, free)
free_at false access byte e x same free behind = behind

free_from : (below address : ℕ) (bytes words : List ℕ) (access : Access) → list_any is_locked bytes ≡ false → decided (deciding_from below bytes words address) access Machine ≡ true
free_from below address [] words access free = refl
free_from below address (byte ∷ bytes) [] access free = refl
free_from below address (byte ∷ bytes) (word ∷ words) access free =
    let here : is_locked byte ≡ false = grind arith in
    let behind : list_any is_locked bytes ≡ false = grind arith in
    free_at (has address (entry_of byte below word)) access byte (entry_of byte below word) _ (configuration-entry_of byte below word) here (free_from word address bytes words access behind)

pub allowed-unlocked : (r : PmpRegisters) (access : Access) (address : ℕ) → has_lock r ≡ false → allowed r access Machine address ≡ true
unfolding deciding
allowed-unlocked r access address free = free_from 0 address r.configurations r.addresses access free
