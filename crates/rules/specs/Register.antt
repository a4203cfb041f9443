-- The register: what is met, by number, in the order of meeting.
use Rattle.std.specs.Prelude.{◌≡◌, ℕ, zero, suc, ◌+◌, ◌<◌, Bool, if◌then◌else◌, List, [], ◌∷◌, ◌++◌, map, length, drop, Some, None, Option, nat_lt, slice_index_or}
use Rattle.std.specs.List.{position_from}
use Rattle.rules.specs.Behaviours.{Behaviour}
use Rattle.rules.specs.Meaning.{Meaning}

-- How things are met: one is first, and each leads to one more by every command. At most `room` are registered.
pub record Scheme (E : Type 0) : Type 0 where
  pub room : ℕ
  pub commands : ℕ
  pub same : E → E → Bool
  pub first : E
  pub next : E → ℕ → E

-- How it ends: with all that can be met, or with the room used up and one more that was met.
pub data Survey (E : Type 0) : Type 0 where
  complete : List E → Survey E
  overfull : List E → E → Survey E

abbrev pub entries : {E : Type 0} → Survey E → List E
entries (complete reg) = reg
entries (overfull reg e) = reg

abbrev pub outcome : {E : Type 0} → Survey E → Option ℕ
outcome (complete reg) = Some (length reg)
outcome (overfull reg e) = None

abbrev pub then_on : {E : Type 0} → Survey E → (List E → Survey E) → Survey E
then_on (complete reg) f = f reg
then_on (overfull reg e) f = overfull reg e

abbrev pub mapped : {A B : Type 0} → (A → B) → Survey A → Survey B
mapped f (complete reg) = complete (map f reg)
mapped f (overfull reg e) = overfull (map f reg) (f e)

-- the first place, counted from i, of what is the same as e
abbrev pub place : {E : Type 0} → (E → E → Bool) → ℕ → List E → E → Option ℕ
place same i reg e = position_from (λ x. same x e) i reg

abbrev pub entered_at : {E : Type 0} → ℕ → List E → E → Option ℕ → Survey E
entered_at room reg e (Some i) = complete reg
entered_at room reg e None = if nat_lt (length reg) room then complete (reg ++ e ∷ []) else overfull reg e

-- e enters if it is new
abbrev pub entered : {E : Type 0} → Scheme E → List E → E → Survey E
entered s reg e = entered_at s.room reg e (place s.same 0 reg e)

-- what e leads to by the n commands from c on
abbrev pub row : {E : Type 0} → Scheme E → ℕ → ℕ → List E → E → Survey E
row s zero c reg e = complete reg
row s (suc n) c reg e = then_on (entered s reg (s.next e c)) (λ more. row s n (c + 1) more e)

-- the rows of what is registered from number i on, at most n of them
abbrev pub walk : {E : Type 0} → Scheme E → ℕ → ℕ → List E → Survey E
walk s zero i reg = complete reg
walk s (suc n) i reg =
    if nat_lt i (length reg) then then_on (row s s.commands 0 reg (slice_index_or reg i s.first)) (λ more. walk s n (i + 1) more) else complete reg

-- what a slice holds that held old, once these entries were written at its front
abbrev pub written : {E : Type 0} → List E → List E → List E
written reg old = reg ++ drop (length reg) old

-- `to` is what the command c leads to from the effect `from`
pub record Onward {E : Type 0} (m : Meaning E) (from : E) (c : ℕ) (to : E) : Type 0 where
  pub known : c < m.commands
  pub is : to ≡ m.join from (m.command c)

-- ---- effects, and the lists that lead to them

abbrev pub of_effects : {E : Type 0} → Meaning E → Scheme E
of_effects m = record {
  room = 64;
  commands = m.commands;
  same = m.same;
  first = m.neutral;
  next = λ e c. m.join e (m.command c);
}

abbrev pub of_lists : Behaviour → Scheme (List ℕ)
of_lists b = record {
  room = 64;
  commands = b.commands;
  same = b.same;
  first = [];
  next = λ w c. w ++ c ∷ [];
}

unfoldable pub met_effects : {E : Type 0} → Meaning E → Survey E
met_effects m = walk (of_effects m) 64 0 (m.neutral ∷ [])

unfoldable pub met_lists : Behaviour → Survey (List ℕ)
met_lists b = walk (of_lists b) 64 0 ([] ∷ [])
