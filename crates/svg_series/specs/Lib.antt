pub mod Canister
