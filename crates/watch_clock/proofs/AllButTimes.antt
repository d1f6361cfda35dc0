-- A record but for its times as received leaves nothing else out: with those times it is the record.
use Rattle.std.specs.Prelude.{Some, None}
use Rattle.std.specs.Prelude as std
use Prim.Native.Nat.{ℕ}
use mathlib.Core.Path.{◌≡◌, refl, ap, ap₂}
use mathlib.Core.List.{List, [], ◌∷◌, map}
use Rattle.message_types.specs.declared.Protocol.{Protocol}
use Rattle.message_types.specs.declared.Plug.{Plug}
use Rattle.rule_limits.specs.declared.Limits.{Limits}
use Rattle.rules.specs.LastTime.{LastTime}
use Rattle.rules.specs.declared.Dated.{Dated}
use Rattle.rules.specs.declared.Dated.TheVariants as dated
use Rattle.rules.specs.declared.OpenSession.{OpenSession}
use Rattle.rules.specs.SessionPart.{SessionPart}
use Rattle.rules.specs.declared.Record.{Record}
use Rattle.watch_clock.specs.Later.{still_last, still_dated, still_latest, still_open, still_part, still, last_time_in, dated_time, latest_shown_time, since_in, times_in}

last_only : (a b : LastTime) → still_last a ≡ still_last b → last_time_in a ≡ last_time_in b → a ≡ b
last_only None None p q = refl
last_only None (Some t) p q = cc
last_only (Some t) None p q = cc
last_only (Some t) (Some s) p q = ap Some q

dated_only : (a b : Dated) → still_dated a ≡ still_dated b → dated_time a ≡ dated_time b → a ≡ b
dated_only (dated.At t age m) (dated.OlderAt s old n) p q = cc
dated_only (dated.OlderAt t age m) (dated.At s old n) p q = cc
dated_only (dated.At t age m) (dated.At s old n) p q =
    let a : age ≡ old = cc in
    let w : m ≡ n = cc in
    rw (q, a, w)
dated_only (dated.OlderAt t age m) (dated.OlderAt s old n) p q =
    let a : age ≡ old = cc in
    let w : m ≡ n = cc in
    rw (q, a, w)

latest_only : (a b : std.Option Dated) → still_latest a ≡ still_latest b → latest_shown_time a ≡ latest_shown_time b → a ≡ b
latest_only std.None std.None p q = refl
latest_only std.None (std.Some d) p q = cc
latest_only (std.Some d) std.None p q = cc
latest_only (std.Some c) (std.Some d) p q =
    let e : still_dated c ≡ still_dated d = cc in
    ap std.Some (dated_only c d e q)

latests_only : (a b : List (std.Option Dated)) → map still_latest a ≡ map still_latest b → map latest_shown_time a ≡ map latest_shown_time b → a ≡ b
latests_only [] [] p q = refl
latests_only [] (y ∷ b) p q = cc
latests_only (x ∷ a) [] p q = cc
latests_only (x ∷ a) (y ∷ b) p q =
    let w : still_latest x ≡ still_latest y = cc in
    let t : latest_shown_time x ≡ latest_shown_time y = cc in
    ap₂ ◌∷◌ (latest_only x y w t) (latests_only a b (cc) (cc))

open_is : (s z : OpenSession) → s.since ≡ z.since → s.age ≡ z.age → s.protocol ≡ z.protocol → s.plug ≡ z.plug → s ≡ z
open_is s z a b c d = go s.since s.age s.protocol s.plug a b c d
  where
    go : (since age : ℕ) (protocol : Protocol) (plug : Plug) → since ≡ z.since → age ≡ z.age → protocol ≡ z.protocol → plug ≡ z.plug
        → ◌≡◌ {A = OpenSession} (record { since = since; age = age; protocol = protocol; plug = plug }) z
    go since age protocol plug a' b' c' d' = rw (a', b', c', d')

part_only : (a b : SessionPart) → still_part a ≡ still_part b → since_in a ≡ since_in b → a ≡ b
part_only None None p q = refl
part_only None (Some s) p q = cc
part_only (Some s) None p q = cc
part_only (Some s) (Some z) p q =
    let w : still_open s ≡ still_open z = cc in
    ap Some (open_is s z q (ap (λ (o : OpenSession). o.age) w) (ap (λ (o : OpenSession). o.protocol) w) (ap (λ (o : OpenSession). o.plug) w))

record_is : (r q : Record) → r.channel ≡ q.channel → r.limits ≡ q.limits → r.last ≡ q.last → r.latest ≡ q.latest → r.session ≡ q.session → r.kept ≡ q.kept
    → r.accepted ≡ q.accepted → r.tallies ≡ q.tallies → r ≡ q
record_is r q a b c d e k f g = go r.channel r.limits r.last r.latest r.session r.kept r.accepted r.tallies a b c d e k f g
  where
    go : (channel : ℕ) (limits : Limits) (l : LastTime) (latest : List (std.Option Dated)) (session : SessionPart) (kept : List (std.Option Dated)) (accepted : ℕ) (tallies : List ℕ) → channel ≡ q.channel
        → limits ≡ q.limits → l ≡ q.last → latest ≡ q.latest → session ≡ q.session → kept ≡ q.kept → accepted ≡ q.accepted → tallies ≡ q.tallies
        → ◌≡◌ {A = Record}
        (record { channel = channel; limits = limits; last = l; latest = latest; session = session; kept = kept; accepted = accepted; tallies = tallies }) q
    go channel limits l latest session kept accepted tallies a' b' c' d' e' k' f' g' = rw (a', b', c', d', e', k', f', g')

pub still_only : (r q : Record) → still r ≡ still q → times_in r ≡ times_in q → r ≡ q
unfolding still
still_only r q p t =
    record_is r q
    (ap (λ (x : Record). x.channel) p)
    (ap (λ (x : Record). x.limits) p)
    (last_only r.last q.last (ap (λ (x : Record). x.last) p) (ap (λ (x : ℕ × List ℕ × ℕ × List ℕ). x.0) t))
    (latests_only r.latest q.latest (ap (λ (x : Record). x.latest) p) (ap (λ (x : ℕ × List ℕ × ℕ × List ℕ). x.1) t))
    (part_only r.session q.session (ap (λ (x : Record). x.session) p) (ap (λ (x : ℕ × List ℕ × ℕ × List ℕ). x.2) t))
    (latests_only r.kept q.kept (ap (λ (x : Record). x.kept) p) (ap (λ (x : ℕ × List ℕ × ℕ × List ℕ). x.3) t))
    (ap (λ (x : Record). x.accepted) p)
    (ap (λ (x : Record). x.tallies) p)
