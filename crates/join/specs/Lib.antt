pub mod Join
pub mod Laying
